use Rattle.dm_words.proofs.Names.{refl}
use Rattle.dm_words.proofs.macros.macro_of.Goals as goal

pub returns-then-is_framed-clause-found : goal.returns-then-is_framed-clause-found
returns-then-is_framed-clause-found c =
    record {
      wide = c.in-Wide.is;
      digit = 53;
      is_macro = refl;
      framed =
          c.is_framed.ensures.yes c.if-is_framed.true;
      no_fnc1 = c.is_framed.ensures.no_fnc1 c.if-is_framed.true;
      long = c.is_framed.ensures.long c.if-is_framed.true;
    }

pub returns-then-is_framed-2-clause-found : goal.returns-then-is_framed-2-clause-found
returns-then-is_framed-2-clause-found c =
    record {
      wide = c.in-Wide.is;
      digit = 54;
      is_macro = refl;
      framed = c.is_framed-else-is_framed.ensures.yes c.if-is_framed-2.true;
      no_fnc1 = c.is_framed-else-is_framed.ensures.no_fnc1 c.if-is_framed-2.true;
      long = c.is_framed-else-is_framed.ensures.long c.if-is_framed-2.true;
    }

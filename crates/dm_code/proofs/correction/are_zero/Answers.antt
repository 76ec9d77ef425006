use Rattle.std.proofs.Common.{◌≡◌, Bool, true, false, ◌||◌, not, nat_eq, get_or, refl, sym, ◌∙◌, ap, arith}
use Rattle.std.proofs.Common.{below_more}
use Rattle.std.proofs.lemmas.Bool.{eq-eqb, eqb-true}
use Rattle.std.proofs.lemmas.List.{get_or_default}
use Rattle.dm_code.proofs.correction.are_zero.Goals as goal

-- Where neither of two holds, the first doesn't, nor does the second; and the other way round.
first_false : (a b : Bool) → (a || b) ≡ false → a ≡ false
first_false true b e = e
first_false false b e = refl

second_false : (a b : Bool) → (a || b) ≡ false → b ≡ false
second_false true b e = let f : b ≡ false = cc in f
second_false false b e = e

neither : (a b : Bool) → a ≡ false → b ≡ false → (a || b) ≡ false
neither true b ea eb = ea
neither false b ea eb = eb

-- What isn't false is true, and what isn't true is false.
not_false : (b : Bool) → not b ≡ false → b ≡ true
not_false true e = refl
not_false false e = sym e

not_true : (b : Bool) → not b ≡ true → b ≡ false
not_true true e = sym e
not_true false e = refl

pub loop-a-preserved : goal.loop-a-preserved
loop-a-preserved c =
    let list = c.args.list.now in
    let i = c.loop-a.a-index in
    let a = get_or list i 0 in
    let now = not (nat_eq a 0) in
    record {
      seen = λ e. below_more (λ k. get_or list k 0 ≡ 0) i
          (c.loop-a.invariant.seen (first_false c.loop-a.other now e))
          (eqb-true a 0 (not_false (nat_eq a 0) (second_false c.loop-a.other now e)));
      none = λ all. neither c.loop-a.other now (c.loop-a.invariant.none all)
          (ap not (eq-eqb a 0 (all i 0 c.loop-a-test.true)));
    }

pub returns : goal.returns
returns c =
    let list = c.args.list.now in (
      λ is k d l. get_or_default list k d 0 l
          ∙ c.loop-a.invariant.seen (not_true c.loop-a.other is) k (omega (arith, l, c.loop-a-test.false)),
      λ all. ap not (c.loop-a.invariant.none all),
    )

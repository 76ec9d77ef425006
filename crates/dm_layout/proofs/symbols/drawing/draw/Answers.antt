use Rattle.std.proofs.Common.{◌≡◌, ℕ, ◌+◌, ◌*◌, ap, refl, ◌∙◌, sym, arith}
use Rattle.dm_layout.proofs.symbols.KeptRows.{modules_of_kept}
use Rattle.dm_layout.proofs.symbols.LongSizes.{across_fits}
use Rattle.dm_layout.proofs.symbols.TableEntries.{size_facts}
use Rattle.dm_layout.proofs.symbols.drawing.draw.Goals as goal

pub prefixes-prefixes-requires : goal.prefixes-prefixes-requires
prefixes-prefixes-requires g c =
    let fits = across_fits c.args.size c.requires.entry in
    let facts = size_facts c.args.size c.requires.entry in
    record {
      some = omega (arith, facts.across);
      few = omega (arith, fits.0);
      fits = rw (c.regions_across.ensures.value, c.region_columns.ensures.value) fits.1;
    }

pub loop-region-init : goal.loop-region-init
loop-region-init g c =
    record {
      lines = refl;
      ends = refl;
      drawn = record {
        same_size = refl;
        symbol = modules_of_kept c.args.size c.args.lines.now c.args.ends.now c.requires.entry;
        colours = λ r k l lk. absurd (omega (arith, l));
      };
    }

pub returns-clause-drawn : goal.returns-clause-drawn
returns-clause-drawn g c =
    let facts = size_facts c.args.size c.requires.entry in
    let all : c.loop-region.region ≡ c.args.size.regions_down =
    omega (arith, c.loop-region-test.false, c.loop-region.auto.region-end) in
    let e = ap (λ (i : ℕ). i * (c.args.size.region_rows + 2)) all ∙ sym facts.rows in
    rw e at c.loop-region.invariant.drawn

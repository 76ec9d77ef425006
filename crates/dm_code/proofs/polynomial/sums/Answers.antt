use Rattle.std.proofs.Common.{◌≡◌, ◌-◌, ◌+◌, ◌*◌, ◌%◌, suc, length, map, drop, get_or, sym, ap, ◌∙◌, arith, bit_xor, []}
use lib.Lanes.{zip2}
use Rattle.gf301.specs.Field.{◌⊗◌, raise, power}
use Rattle.gf301.specs.Polynomial.{value, values_from}
use Rattle.gf301.proofs.Exported.{length-values_from}
use Rattle.dm_code.proofs.SyndromeLanes.{lanes_start, lanes_more, drop_whole}
use Rattle.dm_code.specs.inner.OddTerms.{odd_part}
use Rattle.dm_code.proofs.OddTerms.{odd_start, odd_more, even_more}
use Rattle.dm_code.proofs.polynomial.sums.Goals as goal

pub loop-pair-init : goal.loop-pair-init
loop-pair-init c =
    let w = c.args.terms.now in
    let xs = values_from power c.args.first 16 in
    let e : [] ≡ drop (length w - 2 * 0) w = sym (drop_whole w (length w - 2 * 0) (omega arith)) in
    record {
      values = lanes_start xs 16 (length-values_from power c.args.first 16) ∙ ap (λ p. map (value p) xs) e;
      odd = odd_start xs 16 (length-values_from power c.args.first 16) ∙ ap (λ p. map (odd_part p) xs) e;
    }

pub loop-pair-preserved : goal.loop-pair-preserved
loop-pair-preserved c =
    let w = c.args.terms.now in
    let n = 2 * c.loop-pair.pair in
    let xs = values_from power c.args.first 16 in
    let i = length w - suc n in
    let k = length w - suc (n + 1) in
    let before : length w - n ≡ suc i = omega arith in
    let between : i ≡ suc k = omega arith in
    let after : k ≡ length w - 2 * (c.loop-pair.pair + 1) = omega arith in
    let even : n % 2 ≡ 0 = omega arith in
    let odd : (n + 1) % 2 ≡ 1 = omega arith in
    record {
      values =
          ap (λ r. zip2 bit_xor (zip2 bit_xor r c.term_at-even_term.result) c.term_at-odd_term.result)
          (c.loop-pair.invariant.values ∙ ap (λ m. map (value (drop m w)) xs) before)
          ∙ ap (λ r. zip2 bit_xor (zip2 bit_xor (map (value (drop (suc i) w)) xs) r) c.term_at-odd_term.result)
          c.term_at-even_term.ensures
          ∙ ap (λ r. zip2 bit_xor r c.term_at-odd_term.result) (lanes_more w xs i n (omega arith)
          ∙ ap (λ m. map (value (drop m w)) xs) between)
          ∙ ap (λ r. zip2 bit_xor (map (value (drop (suc k) w)) xs) r) c.term_at-odd_term.ensures
          ∙ lanes_more w xs k (n + 1) (omega arith) ∙ ap (λ m. map (value (drop m w)) xs) after;
      odd =
          ap (λ r. zip2 bit_xor r c.term_at-odd_term.result)
          (c.loop-pair.invariant.odd ∙ ap (λ m. map (odd_part (drop m w)) xs) before
          ∙ even_more w xs i n (omega arith) even ∙ ap (λ m. map (odd_part (drop m w)) xs) between)
          ∙ ap (λ r. zip2 bit_xor (map (odd_part (drop (suc k) w)) xs) r) c.term_at-odd_term.ensures
          ∙ odd_more w xs k (n + 1) (omega arith) odd ∙ ap (λ m. map (odd_part (drop m w)) xs) after;
    }

pub returns-clause-values : goal.returns-clause-values
returns-clause-values c =
    let w = c.args.terms.now in
    let xs = values_from power c.args.first 16 in
    let n = length w - 1 in
    let left : length w - 2 * c.loop-pair.pair ≡ suc 0 = omega arith in
    let place : length w - suc n ≡ 0 = omega arith in
    ap (λ r. zip2 bit_xor r c.term_at-highest.result) (c.loop-pair.invariant.values
    ∙ ap (λ m. map (value (drop m w)) xs) left)
    ∙ ap (λ r. zip2 bit_xor (map (value (drop (suc 0) w)) xs) r) (c.term_at-highest.ensures
    ∙ ap (λ m. map (λ x. get_or w m 0 ⊗ x) (map (λ x. raise x n) xs)) place)
    ∙ lanes_more w xs 0 n (omega arith)

pub returns-clause-odd : goal.returns-clause-odd
returns-clause-odd c =
    let w = c.args.terms.now in
    let xs = values_from power c.args.first 16 in
    let left : length w - 2 * c.loop-pair.pair ≡ suc 0 = omega arith in
    let even : (length w - 1) % 2 ≡ 0 = omega arith in
    c.loop-pair.invariant.odd ∙ ap (λ m. map (odd_part (drop m w)) xs) left
    ∙ even_more w xs 0 (length w - 1) (omega arith) even

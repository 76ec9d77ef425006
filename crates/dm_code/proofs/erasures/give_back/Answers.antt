use Rattle.std.proofs.Common.{◌≡◌, ◌+◌, ◌-◌, ◌<◌, ℕ, suc, length, take, get_or, sym, ap, ◌∙◌, subst, arith}
use Rattle.gf301.specs.Field.{power}
use Rattle.gf301.specs.Polynomial.{value, coefficient, convolution, values_from}
use Rattle.gf301.proofs.Exported.{get_or-values_from}
use Rattle.dm_code.specs.Syndromes.{syndromes_of}
use Rattle.dm_code.specs.inner.Lessened.{AreOddParts, places_locator}
use Rattle.dm_code.proofs.ErasedValues.{IsFilled, evaluator_taken, filled_whole}
use Rattle.dm_code.proofs.First.{first}
use Rattle.dm_code.proofs.SyndromeLaws.{syndromes_length}
use Rattle.dm_code.proofs.erasures.give_back.Goals as goal

pub returns-clause-restored : goal.returns-clause-restored
returns-clause-restored c k w h l a =
    let q = c.args.places.now in
    let odd = c.args.odd.now in
    let count = length q in
    let known = c.blank.new.word in
    let p = places_locator (length w) q in
    let s = syndromes_of known count in
    let t = c.deref.result.now in
    let kl : length known ≡ length w = c.blank.ensures.long ∙ sym l in
    let se : t ≡ s = c.deref.ensures.0 ∙ c.first_syndromes-syndromes.ensures in
    let sl : length t ≡ count = ap length se ∙ syndromes_length known count in
    let ee : take count c.evaluator_of-evaluator.result ≡ first (convolution (coefficient p) (coefficient s)) count =
    ap (λ i. take i c.evaluator_of-evaluator.result) (sym sl) ∙ c.evaluator_of-evaluator.ensures
    ∙ evaluator_taken c.args.locator.now p t (length t)
    (λ i. c.requires.locator i ∙ ap (λ n. coefficient (places_locator n q) i) (sym l))
    ∙ ap (first (convolution (coefficient p) (coefficient t))) sl
    ∙ ap (λ t. first (convolution (coefficient p) (coefficient t)) count) se in
    let filled : IsFilled q odd c.at_places.result.values known c.fill.new.word = record {
      long = c.fill.ensures.long;
      bytes = c.fill.ensures.bytes;
      blank = c.blank.ensures.blank;
      kept = c.fill.ensures.kept;
      filled = c.fill.ensures.filled;
    } in
    let long = c.requires.long in
    filled_whole k q w known odd c.at_places.result.values c.fill.new.word h (omega arith) kl
    (λ i apart. c.blank.ensures.kept i apart ∙ a i apart)
    (subst (λ n. AreOddParts (places_locator n q) n odd) (sym l) c.requires.odd)
    (λ e b. c.at_places.ensures.values e (omega arith) ∙ ap (λ t. value t (power e)) ee)
    filled

pub returns-then-places-word-clause-restored : goal.returns-then-places-word-clause-restored
returns-then-places-word-clause-restored c k w h l a =
    let q = c.args.places.now in
    let odd = c.args.odd.now in
    let count = length q in
    let known = c.blank.new.word in
    let p = places_locator (length w) q in
    let s = syndromes_of known count in
    let t = c.deref.result.now in
    let kl : length known ≡ length w = c.blank.ensures.long ∙ sym l in
    let se : t ≡ s = c.deref.ensures.0 ∙ c.first_syndromes-syndromes.ensures in
    let sl : length t ≡ count = ap length se ∙ syndromes_length known count in
    let ee : take count c.evaluator_of-evaluator.result ≡ first (convolution (coefficient p) (coefficient s)) count =
    ap (λ i. take i c.evaluator_of-evaluator.result) (sym sl) ∙ c.evaluator_of-evaluator.ensures
    ∙ evaluator_taken c.args.locator.now p t (length t)
    (λ i. c.requires.locator i ∙ ap (λ n. coefficient (places_locator n q) i) (sym l))
    ∙ ap (first (convolution (coefficient p) (coefficient t))) sl
    ∙ ap (λ t. first (convolution (coefficient p) (coefficient t)) count) se in
    let n = length w in
    let f : ℕ → ℕ = λ e. value (take count c.evaluator_of-evaluator.result) (power e) in
    let numerators = values_from f 0 n in
    let long = c.requires.long in
    let at : (e : ℕ) → e < n → get_or numerators e 0 ≡ f e =
    λ e b. get_or-values_from f 0 n e b ∙ ap f (let z : 0 + e ≡ e = omega arith in z) in
    let filled : IsFilled q odd numerators known c.fill_few.new.word = record {
      long = c.fill_few.ensures.long;
      bytes = c.fill_few.ensures.bytes;
      blank = c.blank.ensures.blank;
      kept = c.fill_few.ensures.kept;
      filled = λ j b p.
          let within = h.within j 0 b in
          c.fill_few.ensures.filled j b p ∙ sym (at (length known - suc (get_or q j 0)) (omega arith));
    } in
    filled_whole k q w known odd numerators c.fill_few.new.word h (omega arith) kl
    (λ i apart. c.blank.ensures.kept i apart ∙ a i apart)
    (subst (λ n. AreOddParts (places_locator n q) n odd) (sym l) c.requires.odd)
    (λ e b. at e b ∙ ap (λ t. value t (power e)) ee)
    filled

use Rattle.std.proofs.Common.{◌≡◌, ◌+◌, ◌<◌, List, ℕ, length, take, get_or, sym, ap, subst, ◌∙◌, arith}
use Rattle.std.specs.List.{All}
use Rattle.std.proofs.lemmas.Bool.{iff_false}
use Rattle.std.proofs.lemmas.Result.{MatchResult-from_err}
use Rattle.dm_code.specs.Erased.{IsNearBut, distance_but}
use Rattle.dm_code.specs.inner.Lessened.{HasPlaces, IsSameBut, IsWeighed}
use Rattle.dm_code.proofs.Bytes.{bytes_places}
use Rattle.dm_code.proofs.CleanWords.{IsRewritten, rewritten}
use Rattle.dm_code.proofs.EachErased.{AreWeighedAway, changed_same, nothing_back, nothing_left, restored}
use Rattle.dm_code.proofs.EachErased.{weighed_places}
use Rattle.std.proofs.lemmas.Grind.{common_steps}
use Rattle.dm_code.proofs.erasures.correct_around.Goals as goal

pub returns-in_err-near-clause-near : goal.returns-in_err-near-clause-near
returns-in_err-near-clause-near g c =
    let w = c.args.word.now in
    let k = c.args.k in
    let q = c.args.places.now in
    let values = c.at_places-weights.result.values in
    let v = c.deref.result.now in
    let l = take (length q + 1) c.locator_of-locator.result in
    let a : AreWeighedAway k w q values v =
    weighed_places k w q l values c.less_places-less.result.items v
    (bytes_places w (λ i h. omega (arith, c.type_inv.word i))) c.requires.long (omega (arith, c.requires.most))
    (omega (arith, c.requires.data)) c.requires.few (λ i h. c.requires.within i 0 h) c.locator_of-locator.ensures.taken
    c.at_places-weights.ensures.values c.less_places-less.ensures c.deref.ensures.0 in
    MatchResult-from_err c.from_residual.result (λ fixed. IsNearBut k w q fixed.word.items)
    (λ x. (u : List ℕ) → IsNearBut k w q u → ⊥) c.from_residual.ensures.0
    (λ x u n. nothing_left k w q values v u a c.in_err-near.ensures.near n)

pub returns-then-not-are_zero_at-clause-near : goal.returns-then-not-are_zero_at-clause-near
returns-then-not-are_zero_at-clause-near g c u n =
    let w = c.args.word.now in
    let k = c.args.k in
    let q = c.args.places.now in
    let values = c.at_places-weights.result.values in
    let v = c.deref.result.now in
    let l = take (length q + 1) c.locator_of-locator.result in
    let a : AreWeighedAway k w q values v =
    weighed_places k w q l values c.less_places-less.result.items v
    (bytes_places w (λ i h. omega (arith, c.type_inv.word i))) c.requires.long (omega (arith, c.requires.most))
    (omega (arith, c.requires.data)) c.requires.few (λ i h. c.requires.within i 0 h) c.locator_of-locator.ensures.taken
    c.at_places-weights.ensures.values c.less_places-less.ensures c.deref.ensures.0 in
    nothing_back k w q values v c.in_ok-near.near.word.items u a c.in_ok-near.ensures.near
    (λ z. iff_false c.are_zero_at.ensures c.if-not-are_zero_at.true
    (subst (λ t. All (λ p. get_or t p 0 ≡ 0) q) (sym c.deref-2.ensures.0) z)) n

pub returns-clause-near : goal.returns-clause-near
returns-clause-near g c =
    let w = c.args.word.now in
    let k = c.args.k in
    let q = c.args.places.now in
    let values = c.at_places-weights.result.values in
    let v = c.deref.result.now in
    let l = take (length q + 1) c.locator_of-locator.result in
    let a : AreWeighedAway k w q values v =
    weighed_places k w q l values c.less_places-less.result.items v
    (bytes_places w (λ i h. omega (arith, c.type_inv.word i))) c.requires.long (omega (arith, c.requires.most))
    (omega (arith, c.requires.data)) c.requires.few (λ i h. c.requires.within i 0 h) c.locator_of-locator.ensures.taken
    c.at_places-weights.ensures.values c.less_places-less.ensures c.deref.ensures.0 in
    let d = c.in_ok-near.near.word.items in
    let zeros : All (λ p. get_or d p 0 ≡ 0) q =
    subst (λ t. All (λ p. get_or t p 0 ≡ 0) q) c.deref-2.ensures.0
    (c.are_zero_at.ensures.0 c.if-not-are_zero_at.false) in
    let (x, r) = restored k w q values v d a c.requires.ascending c.in_ok-near.ensures.near zeros in
    let places : HasPlaces k q x = record {
      codeword = r.is_near.codeword;
      few = c.requires.few;
      within = λ i y h. subst (λ n. get_or q i y < n) (sym r.is_near.long) (c.requires.within i y h);
      ascending = c.requires.ascending;
    } in
    let t = c.deref_mut.result.now in
    let f = c.divide_changed.new.word in
    let te : t ≡ w = c.deref_mut.ensures.value ∙ c.copy_of-restored.ensures in
    let b : AreWeighedAway k w q values c.deref-4.result.now =
    weighed_places k w q l values c.less_places-less.result.items c.deref-4.result.now a.bytes a.short a.small a.room
    a.few a.within c.locator_of-locator.ensures.taken c.at_places-weights.ensures.values c.less_places-less.ensures
    c.deref-4.ensures.0 in
    let divided : IsRewritten w c.copy_of-restored.result.items f =
    rewritten w c.copy_of-restored.result.items t f c.copy_of-restored.ensures c.deref_mut.ensures.value
    c.divide_changed.ensures.long in
    let u = c.deref_mut-2.result.now in
    let ue : u ≡ f = c.deref_mut-2.ensures.value ∙ divided.word in
    let filled =
    rewritten f _ u c.give_back.new.word divided.word c.deref_mut-2.ensures.value c.give_back.ensures.long in
    let same : IsSameBut q u x =
    subst (λ s. IsSameBut q s x) (sym ue) (changed_same k w q values c.deref-4.result.now c.deref-3.result.now x t f b
    r.bytes r.is_near.long (subst (IsWeighed values x) (sym c.deref-3.ensures.0) r.weighed) te
    c.divide_changed.ensures.long c.divide_changed.ensures.bytes c.divide_changed.ensures.same
    c.divide_changed.ensures.changed) in
    let whole =
    filled.word ∙ c.give_back.ensures.restored k x places (r.is_near.long ∙ sym (ap length te)
    ∙ sym c.divide_changed.ensures.long ∙ sym (ap length ue)) same in
    subst (IsNearBut k w q) (sym whole) r.is_near

pub returns-clause-changed : goal.returns-clause-changed
returns-clause-changed g c =
    let w = c.args.word.now in
    let k = c.args.k in
    let q = c.args.places.now in
    let values = c.at_places-weights.result.values in
    let v = c.deref.result.now in
    let l = take (length q + 1) c.locator_of-locator.result in
    let a : AreWeighedAway k w q values v =
    weighed_places k w q l values c.less_places-less.result.items v
    (bytes_places w (λ i h. omega (arith, c.type_inv.word i))) c.requires.long (omega (arith, c.requires.most))
    (omega (arith, c.requires.data)) c.requires.few (λ i h. c.requires.within i 0 h) c.locator_of-locator.ensures.taken
    c.at_places-weights.ensures.values c.less_places-less.ensures c.deref.ensures.0 in
    let d = c.in_ok-near.near.word.items in
    let zeros : All (λ p. get_or d p 0 ≡ 0) q =
    subst (λ t. All (λ p. get_or t p 0 ≡ 0) q) c.deref-2.ensures.0
    (c.are_zero_at.ensures.0 c.if-not-are_zero_at.false) in
    let (x, r) = restored k w q values v d a c.requires.ascending c.in_ok-near.ensures.near zeros in
    let places : HasPlaces k q x = record {
      codeword = r.is_near.codeword;
      few = c.requires.few;
      within = λ i y h. subst (λ n. get_or q i y < n) (sym r.is_near.long) (c.requires.within i y h);
      ascending = c.requires.ascending;
    } in
    let t = c.deref_mut.result.now in
    let f = c.divide_changed.new.word in
    let te : t ≡ w = c.deref_mut.ensures.value ∙ c.copy_of-restored.ensures in
    let b : AreWeighedAway k w q values c.deref-4.result.now =
    weighed_places k w q l values c.less_places-less.result.items c.deref-4.result.now a.bytes a.short a.small a.room
    a.few a.within c.locator_of-locator.ensures.taken c.at_places-weights.ensures.values c.less_places-less.ensures
    c.deref-4.ensures.0 in
    let divided : IsRewritten w c.copy_of-restored.result.items f =
    rewritten w c.copy_of-restored.result.items t f c.copy_of-restored.ensures c.deref_mut.ensures.value
    c.divide_changed.ensures.long in
    let u = c.deref_mut-2.result.now in
    let ue : u ≡ f = c.deref_mut-2.ensures.value ∙ divided.word in
    let filled =
    rewritten f _ u c.give_back.new.word divided.word c.deref_mut-2.ensures.value c.give_back.ensures.long in
    let same : IsSameBut q u x =
    subst (λ s. IsSameBut q s x) (sym ue) (changed_same k w q values c.deref-4.result.now c.deref-3.result.now x t f b
    r.bytes r.is_near.long (subst (IsWeighed values x) (sym c.deref-3.ensures.0) r.weighed) te
    c.divide_changed.ensures.long c.divide_changed.ensures.bytes c.divide_changed.ensures.same
    c.divide_changed.ensures.changed) in
    let whole =
    filled.word ∙ c.give_back.ensures.restored k x places (r.is_near.long ∙ sym (ap length te)
    ∙ sym c.divide_changed.ensures.long ∙ sym (ap length ue)) same in
    c.in_ok-near.ensures.changed ∙ sym (ap (distance_but q w) whole ∙ r.distance)

pub returns-then-is_empty-clause-near : goal.returns-then-is_empty-clause-near
returns-then-is_empty-clause-near g c = grind (arith, common_steps)

pub returns-then-is_empty-clause-changed : goal.returns-then-is_empty-clause-changed
returns-then-is_empty-clause-changed g c = grind (arith, common_steps)

pub give_back-requires-clause-whole : goal.give_back-requires-clause-whole
give_back-requires-clause-whole g c = grind (arith, common_steps)

pub give_back-requires-clause-within : goal.give_back-requires-clause-within
give_back-requires-clause-within g c = grind (arith, common_steps)

pub give_back-requires-clause-locator : goal.give_back-requires-clause-locator
give_back-requires-clause-locator g c = grind (arith, common_steps)

pub give_back-requires-clause-odd : goal.give_back-requires-clause-odd
give_back-requires-clause-odd g c = grind (arith, common_steps)

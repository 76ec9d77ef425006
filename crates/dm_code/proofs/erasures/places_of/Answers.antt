use Rattle.std.proofs.Common.{◌≡◌, ap, sym, ◌∙◌, arith, length, length-append, ◌∷◌, ◌++◌, []}
use Rattle.dm_code.proofs.EachErased.{erased_more, erased_nil, erased_no_more}
use Rattle.dm_code.proofs.erasures.places_of.Goals.{then-is_erased, else-is_erased}
use Rattle.dm_code.proofs.erasures.places_of.Goals as goal

pub loop-place-init : goal.loop-place-init
loop-place-init c = record {
  found = c.new-places.ensures ∙ sym erased_nil;
  few = omega (arith, ap length c.new-places.ensures);
}

pub loop-place-preserved : goal.loop-place-preserved
loop-place-preserved c =
    let i = c.loop-place.place in
    let few = c.loop-place.invariant.few in
    elim c.if-is_erased.branch [
      | then-is_erased w ↦
          let e : c.if-is_erased.places.items ≡ c.loop-place.places.items ++ (i ∷ []) =
          ap (λ p. p.items) w.places-is ∙ w.push.ensures.items in
          record {
            found =
                e ∙ ap (λ l. l ++ (i ∷ [])) c.loop-place.invariant.found
                ∙ sym (erased_more c.args.erased.now i c.loop-place-test.true w.if-is_erased.true);
            few = omega (arith, ap length e, length-append c.loop-place.places.items (i ∷ []), few);
          }
      | else-is_erased w ↦
          let e : c.if-is_erased.places.items ≡ c.loop-place.places.items = ap (λ p. p.items) w.places-is in
          record {
            found =
                e ∙ c.loop-place.invariant.found
                ∙ sym (erased_no_more c.args.erased.now i c.loop-place-test.true w.if-is_erased.false);
            few = omega (arith, ap length e, few);
          }
    ]

use Rattle.dm_words.proofs.Names.{◌∙◌, ◌≡◌, [], sym, ap, length, length-take, Item, refl, arith, Err, content_by}
use Rattle.dm_words.proofs.Names.{err_from_is_err_and}
use Rattle.dm_words.specs.declared.contents.fault.ContentFault.TheVariants as fault
use Rattle.dm_words.proofs.ContentReadings.{begins_at, closed, is_content_result, opening_room}
use Rattle.dm_words.proofs.contents.reading.read_content.Goals as goal

pub returns-in_default-clause-content : goal.returns-in_default-clause-content
returns-in_default-clause-content c =
    is_content_result c.args.extent c.args.words.now (Err (fault.Append 1)) (λ i. omega (arith, c.type_inv.words i))
    (sym (ap (content_by c.args.extent c.args.words.now) (sym c.opening_of.ensures ∙ c.in_default.is)))

pub add_opening-requires : goal.add_opening-requires
add_opening-requires c =
    let o = opening_room c.args.extent c.args.words.now c.in-Some.found (sym c.opening_of.ensures ∙ c.in-Some.is) in
    omega (arith, o.room (length c.args.items.now) c.requires.room, o.in_range)

pub add_content_parts-requires : goal.add_content_parts-requires
add_content_parts-requires c =
    let is = sym c.opening_of.ensures ∙ c.in-Some.is in
    let b = begins_at _ (length c.args.items.now) _ _ [] _ [] _ is c.requires.room refl refl c.add_opening.ensures.added
    refl in
    let same : length c.args.items.now ≡ length c.add_opening.new.items = omega arith in
    record {
      in_range = (opening_room c.args.extent c.args.words.now c.in-Some.found is).in_range;
      short = c.requires.short;
      most = λ wide. omega (arith, c.requires.most wide);
      marks = c.requires.marks;
      held = c.add_opening.ensures.within;
      marked = omega arith;
      so_far = rw same at b.0;
    }

pub add_closing-requires : goal.add_closing-requires
add_closing-requires c =
    let is = sym c.opening_of.ensures ∙ c.in-Some.is in
    let r = (opening_room c.args.extent c.args.words.now c.in-Some.found is).room (length c.args.items.now)
    c.requires.room in
    omega (
      arith,
      r,
      ap length c.add_opening.ensures.added,
      length-take {A = Item},
      c.in_ok-add_content_parts.ensures.two_for_each_codeword,
    )

pub returns-clause-content : goal.returns-clause-content
returns-clause-content c =
    let is = sym c.opening_of.ensures ∙ c.in-Some.is in
    let b = begins_at _ (length c.args.items.now) _ _ [] _ [] _ is c.requires.room refl refl c.add_opening.ensures.added
    refl in
    is_content_result _ _ _ (λ i. omega (arith, c.type_inv.words i))
    (rw (c.opening_head.ensures, c.add_closing.ensures.added)
    (closed _ _ _ _ _ is b.1 c.in_ok-add_content_parts.ensures.read))

pub returns-in_err-add_content_parts-clause-content : goal.returns-in_err-add_content_parts-clause-content
returns-in_err-add_content_parts-clause-content c =
    let is = sym c.opening_of.ensures ∙ c.in-Some.is in
    let b = begins_at _ (length c.args.items.now) _ _ [] _ [] _ is c.requires.room refl refl c.add_opening.ensures.added
    refl in
    let p = err_from_is_err_and c.from_residual.result c.from_residual.ensures.1 in
    rw (p.1, p.2) (is_content_result _ _ _ (λ i. omega (arith, c.type_inv.words i))
    (closed _ _ _ _ _ is b.1 c.in_err-add_content_parts.ensures.read))

use Rattle.std.proofs.Common.{ℕ, length, get_or, map, ◌<◌, subst, sym, ap, ◌∙◌, ◌≡◌}
use Rattle.gf301.specs.Field.{◌⊗◌}
use Rattle.gf301.proofs.PowersOf.{back, back_read, back_places, followed_first, followed_scaled, followed_free}
use Rattle.gf301.proofs.lanes.append_scaled.Goals as goal

-- What was multiplied are the lanes that were moved.
products : (c : goal.After-scale) → c.scale.result ≡
    map (λ x. c.args.c.0 ⊗ x) (map (λ i. get_or c.args.lanes i 0) (back c.args.count))
products c =
    c.scale.ensures ∙ ap (map (λ x. c.args.c.0 ⊗ x)) (c.by_table-moved.ensures
    ∙ ap (map (λ i. get_or c.args.lanes i 0)) (back_read c.args.count c.requires.few))

pub by_table-moved-requires : goal.by_table-moved-requires
by_table-moved-requires c =
    subst (λ t. (k d : ℕ) → k < length t → get_or t k d < 16) (sym (back_read c.args.count c.requires.few))
    (back_places c.args.count c.requires.few)

pub returns-clause-first : goal.returns-clause-first
returns-clause-first c =
    followed_first c.args.c.0 c.args.count c.args.lanes c.scale.result c.requires.few c.fits-lanes.0 (products c)
    c.requires.free

pub returns-clause-scaled : goal.returns-clause-scaled
returns-clause-scaled c =
    followed_scaled c.args.c.0 c.args.count c.args.lanes c.scale.result c.requires.few c.fits-lanes.0 (products c)
    c.requires.free

pub returns-clause-free : goal.returns-clause-free
returns-clause-free c =
    followed_free c.args.c.0 c.args.count c.args.lanes c.scale.result c.requires.few c.fits-lanes.0 (products c)
    c.requires.free

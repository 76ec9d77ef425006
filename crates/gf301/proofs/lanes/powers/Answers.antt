use Rattle.std.proofs.Common.{map, ap, ◌∙◌}
use lib.Lanes.{chunk}
use Rattle.gf301.specs.Field.{◌⊗◌}
use Rattle.gf301.specs.declared.field.TheConstants.{POWERS}
use Rattle.gf301.proofs.PowerRows.{later_powers}
use Rattle.gf301.proofs.lanes.powers.Goals as goal

pub returns : goal.returns
returns c =
    c.scale.ensures ∙ ap (λ a. map (λ x. a ⊗ x) (chunk 0 16 POWERS)) c.power_of_two.ensures ∙ later_powers c.args.first

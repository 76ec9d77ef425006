use Rattle.ecc200_calls.proofs.Names.{◌≡◌, refl}
use Rattle.ecc200_calls.proofs.reading.show_reading.Goals as goal

pub returns : goal.returns
returns c =
    let identifier : c.from-out.result ≡ c.args.said.now.identifier = c.from-out.ensures in
    rw (
      c.show_content.ensures,
      c.none-out.ensures,
      c.rows-out.ensures.value,
      c.columns-out.ensures.value,
      c.put_counts.ensures.corrected,
      c.put_counts.ensures.erased,
      c.put_counts.ensures.left,
      identifier,
      c.dealing_number-out.ensures,
      c.as_slice-blocks.ensures.value,
    ) (search refl depth 1)

use Rattle.dm_symbol.proofs.Names.{refl, false≢true, IsNormalOrFault}
use Rattle.dm_symbol.proofs.GridNormals.{is_normalised}
use Rattle.dm_symbol.proofs.normalising.normal_to.Goals as goal

pub returns-in-Err : goal.returns-in-Err
returns-in-Err c = record {
  normal = is_normalised c.args.profile c.args.grid.now c.args.border_limit _
      (IsNormalOrFault.fault c.in-Err.fault c.in-Err.ensures.read.result_is refl);
  reading_is = tt;
  reading_of_long = λ e. cc;
  same = refl;
}

pub returns-in-Ok-write_to : goal.returns-in-Ok-write_to
returns-in-Ok-write_to c = record {
  normal =
      is_normalised c.args.profile c.args.grid.now c.args.border_limit _
      (IsNormalOrFault.normal c.write_to.new.grid
      (record {
        message = c.read_to.new.reading.message;
        read =
            (c.in-Ok.ensures.read.message c.read_to.new.reading.message).0 refl;
        normal_grid =
            c.in-Ok-write_to.ensures.written.normal;
      }) refl);
  reading_is = c.in-Ok.ensures.read.result_is;
  reading_of_long = λ e. cc;
  same = tt;
}

pub returns-in-Err-write_to : goal.returns-in-Err-write_to
returns-in-Err-write_to c = record {
  normal =
      is_normalised c.args.profile c.args.grid.now c.args.border_limit _
      (IsNormalOrFault.too_long
      (record {
        message = c.read_to.new.reading.message;
        read =
            (c.in-Ok.ensures.read.message c.read_to.new.reading.message).0 refl;
        too_long =
            λ fits. false≢true (c.in-Err-write_to.ensures.written.fits.1 fits);
      }) refl);
  reading_is = tt;
  reading_of_long = λ e. c.in-Ok.ensures.read.result_is;
  same = c.in-Err-write_to.ensures.same;
}

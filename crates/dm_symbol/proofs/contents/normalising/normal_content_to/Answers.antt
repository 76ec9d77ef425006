use Rattle.dm_symbol.proofs.Names.{refl, rules, option_map, false≢true, size_facts, IsNormalOrFault}
use Rattle.dm_symbol.proofs.NormalContents.{is_content_normalised}
use Rattle.dm_symbol.proofs.contents.normalising.normal_content_to.Goals as goal

pub returns-in-Err : goal.returns-in-Err
returns-in-Err g c =
    let how = c.args.how in
    let doubt = option_map (λ d. d.now) how.doubtful in
    record {
      normal =
          is_content_normalised how.extent c.args.profile c.args.symbol.now doubt how.border_limit _
          (IsNormalOrFault.fault c.in-Err.fault c.in-Err.ensures.read.result_is refl);
      reading_is = tt;
      reading_of_long = λ e. cc;
      same = refl;
    }

pub returns-in-Ok-write_normal_to : goal.returns-in-Ok-write_normal_to
returns-in-Ok-write_normal_to g c =
    let how = c.args.how in
    let doubt = option_map (λ d. d.now) how.doubtful in
    let content = c.read_content_to.new.reading.content in
    record {
      normal =
          is_content_normalised how.extent c.args.profile c.args.symbol.now doubt how.border_limit _
          (IsNormalOrFault.normal c.write_normal_to.new.symbol
          (record {
            content = content;
            read = (c.in-Ok.ensures.read.content content).0 refl;
            normal_symbol = c.in-Ok-write_normal_to.ensures.written.written;
          }) refl);
      reading_is = c.in-Ok.ensures.read.result_is;
      reading_of_long = λ e. cc;
      same = tt;
    }

pub returns-in-Err-write_normal_to : goal.returns-in-Err-write_normal_to
returns-in-Err-write_normal_to g c =
    let how = c.args.how in
    let doubt = option_map (λ d. d.now) how.doubtful in
    let content = c.read_content_to.new.reading.content in
    record {
      normal =
          is_content_normalised how.extent c.args.profile c.args.symbol.now doubt how.border_limit _
          (IsNormalOrFault.too_long
          (record {
            content = content;
            read = (c.in-Ok.ensures.read.content content).0 refl;
            too_long = λ fits. false≢true (c.in-Err-write_normal_to.ensures.written.fits.1 fits);
          }) refl);
      reading_is = tt;
      reading_of_long = λ e. c.in-Ok.ensures.read.result_is;
      same = c.in-Err-write_normal_to.ensures.same;
    }

pub read_content_to-requires : goal.read_content_to-requires
read_content_to-requires g c =
    let facts = size_facts c.args.symbol.now.size c.size-size.ensures.modules.size in (
      search rules,
      (
        search rules,
        (
          search rules,
          (
            search rules,
            (
              c.requires.doubtful,
              (facts.codewords, (c.requires.items, (c.requires.room, c.requires.marks))),
            ),
          ),
        ),
      ),
    )

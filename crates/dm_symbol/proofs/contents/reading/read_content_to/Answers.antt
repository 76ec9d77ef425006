use Rattle.dm_symbol.proofs.Names.{◌≡◌, ◌∙◌, length, ap, subst, arith, rules, inl, option_map, SizeEntry, data_of}
use Rattle.dm_symbol.proofs.Names.{Says, IsRefused, IsIdentifier}
use Rattle.dm_symbol.proofs.SymbolBelow.{data_as_many, data_fits}
use Rattle.dm_symbol.proofs.ContentReadSteps.{refused_content_result, said_content_result, is_content_read}
use Rattle.dm_symbol.proofs.contents.reading.read_content_to.Goals as goal

pub content_said-requires : goal.content_said-requires
content_said-requires g c =
    let v = c.restore_symbol_to.new.words in
    let list = c.data_part.result.now in
    let count : length list ≡ c.args.symbol.now.size.data_count =
    data_as_many v list c.data_part.ensures.words c.data_part.ensures.value
    ∙ ap (λ (s : SizeEntry). s.data_count) c.in-Ok.ensures.restored.size in (
      search rules,
      (
        data_fits v list c.data_part.ensures.words c.data_part.ensures.value,
        (c.requires.most, (rw count c.requires.items, inl (omega (arith, count, c.requires.marks)))),
      ),
    )

pub returns-in-Ok-content_said-clause-read : goal.returns-in-Ok-content_said-clause-read
returns-in-Ok-content_said-clause-read g c =
    let how = c.args.how in
    let doubt = option_map (λ d. d.now) how.doubtful in
    let content = c.content_said.new.content in
    let number = c.in-Ok-content_said.number in
    let says : Says how.extent (data_of c.restore_symbol_to.new.words) content =
    subst (λ words. Says how.extent words content) c.data_part.ensures.value c.in-Ok-content_said.ensures.said.0 in
    let numbered : IsIdentifier (data_of c.restore_symbol_to.new.words) content number =
    subst (λ words. IsIdentifier words content number) c.data_part.ensures.value c.in-Ok-content_said.ensures.said.1 in
    is_content_read how.extent c.args.symbol.now doubt how.border_limit _
    (said_content_result how.extent c.args.symbol.now doubt how.border_limit c.restore_symbol_to.new.words
    c.restore_symbol_to.new.dealing c.restore_symbol_to.new.blocks.items c.restore_symbol_to.new.faults
    c.in-Ok.ensures.restored content number says numbered)

pub returns-in-Err-clause-read : goal.returns-in-Err-clause-read
returns-in-Err-clause-read g c =
    let how = c.args.how in
    let doubt = option_map (λ d. d.now) how.doubtful in
    is_content_read how.extent c.args.symbol.now doubt how.border_limit _ c.in-Err.ensures.lost

pub returns-in-Err-content_said-clause-read : goal.returns-in-Err-content_said-clause-read
returns-in-Err-content_said-clause-read g c =
    let how = c.args.how in
    let doubt = option_map (λ d. d.now) how.doubtful in
    let refused : IsRefused how.extent (data_of c.restore_symbol_to.new.words) c.in-Err-content_said.fault =
    subst (λ words. IsRefused how.extent words c.in-Err-content_said.fault) c.data_part.ensures.value
    c.in-Err-content_said.ensures.refused in
    is_content_read how.extent c.args.symbol.now doubt how.border_limit _
    (refused_content_result how.extent c.args.symbol.now doubt how.border_limit c.restore_symbol_to.new.words
    c.restore_symbol_to.new.dealing c.restore_symbol_to.new.blocks.items c.restore_symbol_to.new.faults
    c.in-Ok.ensures.restored c.in-Err-content_said.fault refused)

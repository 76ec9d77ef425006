use Rattle.dm_symbol.proofs.Names.{◌≡◌, ◌∙◌, ◌++◌, ◌/◌, ap, arith, length, sym, subst, take, length-take-le, IsCodeword}
use Rattle.dm_symbol.proofs.Names.{◌-◌, block_check, AreOfSize, codeword_bytes, length-append, take-append_seam}
use borrow.Rule.Slice.PartMut.{put_mid}
use Rattle.dm_symbol.proofs.SymbolBelow.{only_block, only_short, put_last}
use Rattle.dm_symbol.proofs.symbol.writing.complete_only_block.Goals as goal

pub encode-checks-requires-clause-room : goal.encode-checks-requires-clause-room
encode-checks-requires-clause-room c =
    let s = c.args.size in
    let none : s.check_count / 1 ≡ s.check_count = omega arith in
    let count : c.from.result ≡ s.check_count = c.from.ensures ∙ c.block_check.ensures.value
    ∙ ap (λ n. s.check_count / n) c.requires.one ∙ none in
    let all = c.requires.words.count in
    omega (
      arith,
      (only_short s c.args.words.now c.requires.words c.requires.one).0,
      count,
      all,
      c.from-front.ensures,
      c.data_count.ensures.value,
      length-take-le c.from-front.result c.args.words.now (omega (
        arith,
        all,
        c.from-front.ensures,
        c.data_count.ensures.value,
      )),
    )

pub returns : goal.returns
returns c =
    let s = c.args.size in
    let w = c.args.words.now in
    let front = take c.from-front.result w in
    let checks = c.encode-checks.result.items in
    let many : c.from-front.result ≡ s.data_count = c.from-front.ensures ∙ c.data_count.ensures.value in
    let count : c.from.result ≡ block_check s = c.from.ensures ∙ c.block_check.ensures.value in
    let code : IsCodeword (block_check s) (front ++ checks) =
    subst (λ k. IsCodeword k (front ++ checks)) count c.encode-checks.ensures.completes in
    let whole : put_mid c.from-front.result (length w - c.from-front.result) w c.copy_from_slice.new.self
    ≡ front ++ checks =
    put_last c.from-front.result w c.copy_from_slice.new.self
    ∙ ap (λ xs. front ++ xs) (c.copy_from_slice.ensures.after ∙ c.deref.ensures.0) in
    let all = c.requires.words.count in
    let one : s.check_count / 1 ≡ s.check_count = omega arith in
    let long : length front ≡ s.data_count =
    length-take-le c.from-front.result w (omega (arith, all, many)) ∙ many in
    let of_size : AreOfSize s (front ++ checks) =
    record {
      size = c.requires.words.size;
      count = length-append front checks ∙ omega (
        arith,
        long,
        c.encode-checks.ensures.count,
        count,
        ap (λ n. s.check_count / n) c.requires.one,
        one,
      );
      bytes = codeword_bytes (block_check s) (front ++ checks) code;
    } in
    rw whole (record {
      words = of_size;
      data_words = ap (λ n. take n (front ++ checks)) (sym long) ∙ take-append_seam front checks
          ∙ ap (λ n. take n w) many;
      checked = λ b hb. subst (λ xs. IsCodeword (block_check s) xs)
          (sym (only_block s (front ++ checks) of_size c.requires.one b hb)) code;
    })

use Rattle.std.proofs.Common.{◌≡◌, ◌≤◌, ◌+◌, ◌-◌, ◌∙◌, [], ◌∷◌, ◌++◌, List, ℕ, zero, suc, append-nil, arith, inl}
use Rattle.std.proofs.Common.{length, length-append, length-take-le, max, refl, subst, sym, take}
use Rattle.std.specs.Io.KnownBytes.{Appends}
use Rattle.dm_text.specs.Devices.{AppendsPrefix, HasRisen}
use Rattle.dm_text.specs.Runs.{most_asked, answers_text}
use Rattle.dm_text.proofs.Asks.{asked_by, next_is_within}
use Rattle.dm_text.proofs.Flushes.{flushed_later, text_flushed}
use Rattle.dm_text.proofs.KnownBytes.{appends_none, appends_then, prefix_then}
use Rattle.dm_text.proofs.Outcomes.{all_answered, broken_after, broken_before, done_so_far, too_much, written_append}
use Rattle.dm_text.proofs.RunEndings.{ends_by_read, ends_by_too_much, ends_by_write, ends_table, ends_well}
use Rattle.dm_text.proofs.AnsweredSoFar.{done_by, not_table}
use Rattle.dm_text.proofs.running.run.Goals as goal

-- Where the bytes that came and those that may still come are `most` together, no more than `most` came.
few : (text : List ℕ) (left most : ℕ) → length text + left ≡ most → length text ≤ most
few text left most e = omega arith

-- Where more bytes may still come, no more came than might.
within : (count left : ℕ) → count ≤ max left 1 → (left ≡ 0 → ⊥) → count ≤ left
within count zero h n = absurd (n refl)
within count (suc left) h n = omega (arith, h)

-- After a further piece, the bytes that came and those that may still come are still `most` together.
longer : (text buffer : List ℕ) (count left most : ℕ) → length text + left ≡ most → count ≤ max left 1 →
    (left ≡ 0 → ⊥) → count ≤ length buffer
    → length (text ++ take count buffer) + (left - count) ≡ most
longer text buffer count left most e h n k =
    omega (arith, length-append text (take count buffer), length-take-le count buffer k, within count left h n)

-- A piece of at most one byte that isn't empty is one byte.
one_byte : (count : ℕ) (buffer : List ℕ) → (count ≡ 0 → ⊥) → count ≤ 1 → count ≤ length buffer →
    (byte : ℕ) × (take count buffer ≡ byte ∷ [])
one_byte zero buffer n h k = absurd (n refl)
one_byte (suc zero) [] n h k = absurd (omega arith)
one_byte (suc zero) (byte ∷ buffer) n h k = (byte, refl)
one_byte (suc (suc count)) buffer n h k = absurd (omega arith)

-- A piece of no bytes adds nothing to what the source gave.
no_more : (Gave : List ℕ → Type 0) (text buffer : List ℕ) (count : ℕ) → count ≡ 0 → Gave (text ++ take count buffer) →
    Gave text
no_more Gave text buffer count e gave = subst Gave (append-nil text) (subst (λ n. Gave (text ++ take n buffer)) e gave)

pub pieces-init : goal.pieces-init
pieces-init g c = record {
  read_well = refl;
  wrote_well = refl;
  unflushed = g.met.O.Sink.flushed_none c.args.sink.now;
  asked =
      g.met.I.Source.asked_joined c.args.source.now c.args.source.now c.args.source.now [] 0 0 c.args.most
      (g.met.I.Source.gave_none c.args.source.now)
      (g.met.I.Source.asked_none c.args.source.now) (g.met.I.Source.asked_none c.args.source.now) (omega arith)
      (omega arith);
  room = omega arith;
  so_far = (
    [],
    [],
    g.met.I.Source.gave_none c.args.source.now,
    omega arith,
    c.in-Some.ensures.some,
    appends_none (g.O.Sink.contents c.args.sink.now),
    refl,
  );
}

pub returns-in_default : goal.returns-in_default
returns-in_default g c =
    let source = c.args.source.now in
    let t = c.print_table.ensures in
    let gave = g.met.I.Source.gave_none source in
    let none = g.met.I.Source.asked_none source in
    record {
      ends =
          ends_table c.print_table.result c.in_default.ensures.none gave t.tally t.ok t.flushed t.well t.err t.failed
          t.write t.held t.late (
            [],
            gave,
            g.met.I.Source.asked_joined source source source [] 0 0 (most_asked c.args.most 0) gave none none
                (omega arith) (omega arith),
          );
    }

pub returns-in-Ok-end : goal.returns-in-Ok-end
returns-in-Ok-end g c =
    let s = c.pieces.invariant.so_far in
    let e = c.in-Ok-end.ensures.ok in
    let zero_bytes = c.in-Ok-eq0.field-0-test in
    let gave =
    g.met.I.Source.gave_joined c.args.source.now c.pieces.source c.next_piece.new.source s.0 _ s.2
    c.in-Ok-eq0.ensures.bytes in
    let was = g.O.Sink.contents c.args.sink.now in
    let between = g.O.Sink.contents c.pieces.sink in
    let now = g.O.Sink.contents c.end.new.sink in
    record {
      ends = ends_well c.end.new.tally
          (all_answered c.args.task c.args.most (g.I.Source.gave c.args.source.now c.next_piece.new.source)
          (Appends was now) (g.I.Source.ended c.next_piece.new.source)
          c.pieces.answering s.0 s.1 e.0 c.end.new.tally
          (no_more (g.I.Source.gave c.args.source.now c.next_piece.new.source) s.0 c.next_piece.new.buffer
          c.in-Ok-eq0.field-0 zero_bytes gave)
          (c.in-Ok-eq0.ensures.end zero_bytes) (few s.0 c.pieces.left c.args.most s.3) s.4 e.1 (e.3 s.1 s.6)
          (subst (Appends was now) (sym (written_append s.1 e.0))
          (appends_then was between now (answers_text s.1) (answers_text e.0) s.5 e.2)))
          c.in-Ok-end.ensures.flushed
          (flushed_later (g.O.Sink.flushed c.args.sink.now c.pieces.sink)
          (g.O.Sink.flushed c.pieces.sink c.end.new.sink) (g.O.Sink.flushed c.args.sink.now c.end.new.sink)
          was between now (answers_text s.1) (g.met.O.Sink.flushed_joined c.args.sink.now c.pieces.sink c.end.new.sink)
          c.pieces.invariant.unflushed s.5 c.in-Ok-end.ensures.held)
          (c.in-Ok-eq0.ensures.count ∙ c.pieces.invariant.read_well) (c.in-Ok-end.ensures.count
          ∙ c.pieces.invariant.wrote_well)
          (asked_by g.I.Source.gave g.I.Source.asked g.met.I.Source.gave_joined g.met.I.Source.asked_joined
          c.args.source.now c.pieces.source c.next_piece.new.source s.0 _ c.pieces.left
          c.args.most s.2 c.in-Ok-eq0.ensures.bytes c.pieces.invariant.asked c.next_piece.ensures.asked s.3);
    }

pub returns-in-Err-end : goal.returns-in-Err-end
returns-in-Err-end g c =
    let s = c.pieces.invariant.so_far in
    let e = c.in-Err-end.ensures.err in
    let zero_bytes = c.in-Ok-eq0.field-0-test in
    let Gave = g.I.Source.gave c.args.source.now c.next_piece.new.source in
    let Ended = g.I.Source.ended c.next_piece.new.source in
    let gave = no_more Gave s.0 c.next_piece.new.buffer c.in-Ok-eq0.field-0 zero_bytes
    (g.met.I.Source.gave_joined c.args.source.now c.pieces.source c.next_piece.new.source s.0 _ s.2
    c.in-Ok-eq0.ensures.bytes) in
    let ended = c.in-Ok-eq0.ensures.end zero_bytes in
    let within_most = few s.0 c.pieces.left c.args.most s.3 in
    let was = g.O.Sink.contents c.args.sink.now in
    let between = g.O.Sink.contents c.pieces.sink in
    let now = g.O.Sink.contents c.end.new.sink in
    record {
      ends = ends_by_write
          (broken_after c.args.task c.args.most Gave (AppendsPrefix was now) Ended c.pieces.answering s.0 s.1 e.0 gave
          ended within_most s.4 e.1
          (prefix_then was between now (answers_text s.1) (answers_text e.0) (answers_text (s.1 ++ e.0)) s.5 e.2
          (written_append s.1 e.0)))
          (subst (λ n. HasRisen n (g.O.Sink.failed c.end.new.sink)) c.pieces.invariant.wrote_well
          c.in-Err-end.ensures.count)
          (c.in-Ok-eq0.ensures.count ∙ c.pieces.invariant.read_well)
          (text_flushed c.args.task c.args.most Gave Ended c.pieces.answering s.0 s.1 c.pieces.tally c.end.new.tally
          (g.O.Sink.flushed c.args.sink.now c.pieces.sink) (g.O.Sink.flushed c.pieces.sink c.end.new.sink)
          (g.O.Sink.flushed c.args.sink.now c.end.new.sink) was between now
          (g.met.O.Sink.flushed_joined c.args.sink.now c.pieces.sink c.end.new.sink) c.pieces.invariant.unflushed s.5
          gave ended within_most s.4 s.6 c.in-Err-end.ensures.late)
          (asked_by g.I.Source.gave g.I.Source.asked g.met.I.Source.gave_joined g.met.I.Source.asked_joined
          c.args.source.now c.pieces.source c.next_piece.new.source s.0 _ c.pieces.left
          c.args.most s.2 c.in-Ok-eq0.ensures.bytes c.pieces.invariant.asked c.next_piece.ensures.asked s.3);
    }

pub returns-in-Err : goal.returns-in-Err
returns-in-Err g c =
    let s = c.pieces.invariant.so_far in
    let gave =
    g.met.I.Source.gave_joined c.args.source.now c.pieces.source c.next_piece.new.source s.0 [] s.2
    c.in-Err.ensures.bytes in
    record {
      ends = ends_by_read
          (done_so_far c.args.task c.args.most (g.I.Source.gave c.args.source.now c.next_piece.new.source)
          (Appends (g.O.Sink.contents c.args.sink.now) (g.O.Sink.contents c.pieces.sink)) c.pieces.answering s.0 s.1
          (rw append-nil at gave)
          (few s.0 c.pieces.left c.args.most s.3) s.4 s.5)
          (subst (λ n. HasRisen n (g.I.Source.failed c.next_piece.new.source)) c.pieces.invariant.read_well
          c.in-Err.ensures.count)
          c.pieces.invariant.wrote_well c.pieces.invariant.unflushed
          (asked_by g.I.Source.gave g.I.Source.asked g.met.I.Source.gave_joined g.met.I.Source.asked_joined
          c.args.source.now c.pieces.source c.next_piece.new.source s.0 _ c.pieces.left
          c.args.most s.2 c.in-Err.ensures.bytes c.pieces.invariant.asked c.next_piece.ensures.asked s.3);
    }

pub returns-then-left-eq0 : goal.returns-then-left-eq0
returns-then-left-eq0 g c =
    let s = c.pieces.invariant.so_far in
    let one =
    one_byte c.in-Ok.count c.next_piece.new.buffer c.in-Ok.count-test.1
    (subst (λ n. c.in-Ok.count ≤ max n 1) c.if-left-eq0.true c.in-Ok.ensures.few)
    (omega (arith, c.in-Ok.ensures.fits, c.in-Ok.ensures.kept)) in
    let gave =
    g.met.I.Source.gave_joined c.args.source.now c.pieces.source c.next_piece.new.source s.0 _ s.2
    c.in-Ok.ensures.bytes in
    record {
      ends = ends_by_too_much
          (too_much c.args.task c.args.most (g.I.Source.gave c.args.source.now c.next_piece.new.source)
          (Appends (g.O.Sink.contents c.args.sink.now) (g.O.Sink.contents c.pieces.sink)) c.pieces.answering s.0 one.0
          s.1
          (subst (λ l. g.I.Source.gave c.args.source.now c.next_piece.new.source (s.0 ++ l)) one.1 gave)
          (omega (arith, s.3, c.if-left-eq0.true)) s.4 s.5)
          (c.in-Ok.ensures.count ∙ c.pieces.invariant.read_well) c.pieces.invariant.wrote_well
          c.pieces.invariant.unflushed
          (asked_by g.I.Source.gave g.I.Source.asked g.met.I.Source.gave_joined g.met.I.Source.asked_joined
          c.args.source.now c.pieces.source c.next_piece.new.source s.0 _ c.pieces.left
          c.args.most s.2 c.in-Ok.ensures.bytes c.pieces.invariant.asked c.next_piece.ensures.asked s.3);
    }

pub returns-in-Err-answer_piece : goal.returns-in-Err-answer_piece
returns-in-Err-answer_piece g c =
    let s = c.pieces.invariant.so_far in
    let e = c.in-Err-answer_piece.ensures.err c.args.task s.0 s.1 s.4 in
    let count = c.in-Ok.count in
    let buffer = c.next_piece.new.buffer in
    let gave =
    g.met.I.Source.gave_joined c.args.source.now c.pieces.source c.next_piece.new.source s.0 (take count buffer) s.2
    c.in-Ok.ensures.bytes in
    let long =
    longer s.0 buffer count c.pieces.left c.args.most s.3 c.in-Ok.ensures.few c.if-left-eq0.false
    (omega (arith, c.in-Ok.ensures.fits, c.in-Ok.ensures.kept)) in
    record {
      ends = ends_by_write
          (broken_before c.args.task c.args.most (g.I.Source.gave c.args.source.now c.next_piece.new.source)
          (AppendsPrefix (g.O.Sink.contents c.args.sink.now) (g.O.Sink.contents c.answer_piece.new.sink))
          (g.I.Source.ended c.next_piece.new.source)
          (s.0 ++ take count buffer) (s.1 ++ e.0) gave
          (few (s.0 ++ take count buffer) (c.pieces.left - count) c.args.most long)
          (done_by c.args.task (s.0 ++ take count buffer) (s.1 ++ e.0)
          (not_table c.args.task c.pieces.answering s.0 s.1 s.4) e.1)
          (prefix_then (g.O.Sink.contents c.args.sink.now) (g.O.Sink.contents c.pieces.sink)
          (g.O.Sink.contents c.answer_piece.new.sink) (answers_text s.1) (answers_text e.0)
          (answers_text (s.1 ++ e.0)) s.5 e.2 (written_append s.1 e.0)))
          (subst (λ n. HasRisen n (g.O.Sink.failed c.answer_piece.new.sink)) c.pieces.invariant.wrote_well
          c.in-Err-answer_piece.ensures.count)
          (c.in-Ok.ensures.count ∙ c.pieces.invariant.read_well)
          (inl (g.met.O.Sink.flushed_joined c.args.sink.now c.pieces.sink c.answer_piece.new.sink [] []
          c.pieces.invariant.unflushed c.answer_piece.ensures.unflushed))
          (asked_by g.I.Source.gave g.I.Source.asked g.met.I.Source.gave_joined g.met.I.Source.asked_joined
          c.args.source.now c.pieces.source c.next_piece.new.source s.0 _ c.pieces.left
          c.args.most s.2 c.in-Ok.ensures.bytes c.pieces.invariant.asked c.next_piece.ensures.asked s.3);
    }

pub pieces-preserved : goal.pieces-preserved
pieces-preserved g c =
    let s = c.pieces.invariant.so_far in
    let e = c.in_default-answer_piece.ensures.ok in
    let count = c.in-Ok.count in
    let buffer = c.next_piece.new.buffer in
    let fits : count ≤ length buffer = omega (arith, c.in-Ok.ensures.fits, c.in-Ok.ensures.kept) in
    record {
      read_well = c.in-Ok.ensures.count ∙ c.pieces.invariant.read_well;
      wrote_well = c.in_default-answer_piece.ensures.count ∙ c.pieces.invariant.wrote_well;
      unflushed =
          g.met.O.Sink.flushed_joined c.args.sink.now c.pieces.sink c.answer_piece.new.sink [] []
          c.pieces.invariant.unflushed c.answer_piece.ensures.unflushed;
      asked =
          g.met.I.Source.asked_joined c.args.source.now c.pieces.source c.next_piece.new.source s.0 c.args.most
          (max c.pieces.left 1) c.args.most s.2 c.pieces.invariant.asked
          c.next_piece.ensures.asked (omega arith)
          (next_is_within (length s.0) c.pieces.left c.args.most s.3 c.if-left-eq0.false);
      room =
          omega (
            arith,
            c.pieces.invariant.room,
            c.in_default-answer_piece.ensures.sum,
            length-take-le count buffer fits,
            within count c.pieces.left c.in-Ok.ensures.few c.if-left-eq0.false,
          );
      so_far = (
        s.0 ++ take count buffer,
        s.1 ++ e.0,
        g.met.I.Source.gave_joined c.args.source.now c.pieces.source c.next_piece.new.source s.0 (take count buffer) s.2
            c.in-Ok.ensures.bytes,
        longer s.0 buffer count c.pieces.left c.args.most s.3 c.in-Ok.ensures.few c.if-left-eq0.false fits,
        e.1 c.args.task s.0 s.1 s.4,
        subst (Appends (g.O.Sink.contents c.args.sink.now) (g.O.Sink.contents c.answer_piece.new.sink))
            (sym (written_append s.1 e.0))
            (appends_then (g.O.Sink.contents c.args.sink.now) (g.O.Sink.contents c.pieces.sink)
            (g.O.Sink.contents c.answer_piece.new.sink) (answers_text s.1) (answers_text e.0) s.5 e.2),
        e.3 s.1 s.6,
      );
    }

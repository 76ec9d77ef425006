use Rattle.std.proofs.Common.{◌≡◌, ◌*◌, ◌/◌, ◌≤◌, ◌++◌, length, take, drop, refl, sym, ap, subst, ◌∙◌, arith, IsTrue}
use Rattle.std.proofs.Common.{false, Ok}
use Rattle.dm_code.specs.Codeword.{IsCodeword, IsNear, distance}
use Rattle.dm_code.specs.Syndromes.{syndromes_of}
use Rattle.dm_code.specs.KeyEquation.{IsLeastPair, NoPair}
use Rattle.dm_code.proofs.Distance.{differing_nowhere, near_one}
use Rattle.dm_code.proofs.SyndromeLaws.{syndromes_length}
use Rattle.dm_code.proofs.Nearness.{near_pair}
use Rattle.dm_code.proofs.CleanWords.{codeword_from_syndromes, zero_syndromes, distance_self}
use Rattle.dm_code.proofs.CleanWords.{near_self, IsRewritten, rewritten}
use Rattle.dm_code.proofs.correction.mend.Given.{Over}
use Rattle.dm_code.proofs.correction.mend.Goals as goal
use Rattle.dm_code.proofs.correction.mend.Goals.{else-are_zero-via-then-are_zero+else-from-k}
use Rattle.dm_code.proofs.correction.mend.Goals.{else-are_zero-via-else-are_zero}

-- ---- no pair, so no codeword is near
pub solve-requires-clause-half : goal.solve-requires-clause-half
solve-requires-clause-half g c =
    let n : length c.deref.result.now ≡ c.args.k =
    ap length (c.deref.ensures.0 ∙ c.syndromes_of_short-syndromes.ensures.values ∙ c.requires.rest)
    ∙ syndromes_length c.args.word.now c.args.k in
    let r : 2 * (c.args.k / 2) ≤ length c.deref.result.now = omega arith in r

pub returns-in_default-clause-near : goal.returns-in_default-clause-near
returns-in_default-clause-near g c v h =
    let w = c.args.word.now in
    let s = c.deref.result.now in
    let k = c.args.k in
    let e : s ≡ syndromes_of w k =
    c.deref.ensures.0 ∙ c.syndromes_of_short-syndromes.ensures.values ∙ c.requires.rest in
    let n : length s ≡ k = ap length e ∙ syndromes_length w k in
    near_pair w s v (e ∙ ap (syndromes_of w) (sym n)) (subst (λ m. IsNear m w v) (sym n) h)
    (subst (λ m. NoPair s (m / 2)) (sym n) c.in_default.ensures.none)

pub returns-in_default-clause-itself : goal.returns-in_default-clause-itself
returns-in_default-clause-itself g c = (
  λ e. absurd (cc e),
  λ h. absurd
      (returns-in_default-clause-near g c c.args.word.now (near_self c.args.k c.args.word.now c.args.word.now refl h)),
)

-- ---- the errors are corrected
pub correct_errors-changed-requires-clause-syndromes : goal.correct_errors-changed-requires-clause-syndromes
correct_errors-changed-requires-clause-syndromes g c =
    let w = c.args.word.now in
    let k = c.args.k in
    let s = c.deref-2.result.now in
    let e : s ≡ syndromes_of w k =
    c.deref-2.ensures.0 ∙ c.syndromes_of_short-syndromes.ensures.values ∙ c.requires.rest in
    ap (λ n. take n c.with_room-left.result) (sym (ap length e ∙ syndromes_length w k)) ∙ c.with_room-left.ensures ∙ e
    ∙ ap (λ u. syndromes_of u k) (sym (c.deref_mut.ensures.value ∙ c.copy_to.ensures))

pub correct_errors-changed-requires-clause-key : goal.correct_errors-changed-requires-clause-key
correct_errors-changed-requires-clause-key g c =
    let k = c.args.k in
    let l = c.in-Some.key.locator.items in
    let v = c.in-Some.key.evaluator.items in
    subst (λ u. IsLeastPair u (k / 2) l v)
    (c.deref.ensures.0 ∙ c.syndromes_of_short-syndromes.ensures.values ∙ c.requires.rest ∙ ap (λ u. syndromes_of u k)
    (sym (c.deref_mut.ensures.value ∙ c.copy_to.ensures)))
    c.in-Some.ensures.least

-- The codeword that is found is near the word.
found_near : (g : Over) (c : goal.Then-from-k g)
    → IsNear c.args.k c.args.word.now (take (length c.copy_to.new.copy.items)
    (c.correct_errors-changed.new.word ++ drop (length c.correct_errors-changed.new.word) c.copy_to.new.copy.items))
found_near g c =
    let w = c.args.word.now in
    let k = c.args.k in
    let f = c.correct_errors-changed.new.word in
    let now : IsRewritten w c.copy_to.new.copy.items f =
    rewritten w c.copy_to.new.copy.items c.deref_mut.result.now f c.copy_to.ensures c.deref_mut.ensures.value
    c.correct_errors-changed.ensures.long in
    let ch : c.correct_errors-changed.result ≡ distance w f =
    c.correct_errors-changed.ensures.changed
    ∙ ap (λ u. distance u f) (c.deref_mut.ensures.value ∙ c.copy_to.ensures) in
    let d : distance w f ≤ k / 2 =
    omega (
      arith,
      ch,
      c.from.ensures,
      c.if-from-k.true,
    ) in
    subst (IsNear k w) (sym now.word) (record {
      codeword =
          codeword_from_syndromes k f (take k c.correct_errors-changed.new.syndromes) c.requires.most
          (omega (arith, now.long, c.requires.data)) (omega (arith, now.long, c.requires.long))
          c.correct_errors-changed.ensures.bytes c.correct_errors-changed.ensures.kept
          (c.are_zero.ensures.0 c.if-are_zero.true);
      long = now.long;
      close = d;
    })

-- The number of changed places is the distance of the word from what is found.
found_distance : (g : Over) (c : goal.Then-from-k g)
    → c.correct_errors-changed.result ≡ distance c.args.word.now (take (length c.copy_to.new.copy.items)
    (c.correct_errors-changed.new.word ++ drop (length c.correct_errors-changed.new.word) c.copy_to.new.copy.items))
found_distance g c =
    let w = c.args.word.now in
    let f = c.correct_errors-changed.new.word in
    let ch : c.correct_errors-changed.result ≡ distance w f =
    c.correct_errors-changed.ensures.changed
    ∙ ap (λ u. distance u f) (c.deref_mut.ensures.value ∙ c.copy_to.ensures) in
    let now : IsRewritten w c.copy_to.new.copy.items f =
    rewritten w c.copy_to.new.copy.items c.deref_mut.result.now f c.copy_to.ensures c.deref_mut.ensures.value
    c.correct_errors-changed.ensures.long in
    ch ∙ ap (distance w) (sym now.word)

pub returns-then-from-k-clause-near : goal.returns-then-from-k-clause-near
returns-then-from-k-clause-near g c some = found_near g c

pub returns-then-from-k-clause-changed : goal.returns-then-from-k-clause-changed
returns-then-from-k-clause-changed g c some = found_distance g c

pub returns-then-from-k-clause-itself : goal.returns-then-from-k-clause-itself
returns-then-from-k-clause-itself g c =
    let w = c.args.word.now in
    let k = c.args.k in
    let a = c.copy_to.new.copy.items in
    let f = c.correct_errors-changed.new.word in
    let found = take (length a) (f ++ drop (length f) a) in
    let near : IsNear k w found = found_near g c in
    let counted : c.correct_errors-changed.result ≡ distance w found = found_distance g c in (
      λ e.
          let none : c.correct_errors-changed.result ≡ 0 = cc e in
          subst (IsCodeword k) (differing_nowhere w found near.long (sym counted ∙ none)) near.codeword,
      λ h.
          let same : found ≡ w = near_one k w found w c.requires.long near (near_self k w w refl h) in
          ap (λ n. Ok n) (counted ∙ distance_self w found same),
    )

pub returns-else-are_zero-clause-near : goal.returns-else-are_zero-clause-near
returns-else-are_zero-clause-near g c v h =
    let w = c.args.word.now in
    let k = c.args.k in
    let f = c.correct_errors-changed.new.word in
    let s = take k c.correct_errors-changed.new.syndromes in
    let now : IsRewritten w c.copy_to.new.copy.items f =
    rewritten w c.copy_to.new.copy.items c.deref_mut.result.now f c.copy_to.ensures c.deref_mut.ensures.value
    c.correct_errors-changed.ensures.long in
    let ch : c.correct_errors-changed.result ≡ distance w f =
    c.correct_errors-changed.ensures.changed
    ∙ ap (λ u. distance u f) (c.deref_mut.ensures.value ∙ c.copy_to.ensures) in
    let same : f ≡ v =
    c.correct_errors-changed.ensures.near v (subst (λ u. IsNear k u v)
    (sym (c.deref_mut.ensures.value ∙ c.copy_to.ensures)) h) in
    elim c.else-are_zero.branch [
      | else-are_zero-via-then-are_zero+else-from-k b ↦
          absurd (omega (
            arith,
            ch ∙ ap (distance w) same,
            b.from.ensures,
            b.if-from-k.false,
            h.close,
          ))
      | else-are_zero-via-else-are_zero b ↦
          let yes : IsTrue c.are_zero.result =
          c.are_zero.ensures.1 (zero_syndromes k f s c.correct_errors-changed.ensures.kept
          (subst (IsCodeword k) (sym same) h.codeword)) in
          let not : c.are_zero.result ≡ false = b.if-are_zero.false in
          absurd (cc (yes, not))
    ]

pub returns-else-are_zero-clause-itself : goal.returns-else-are_zero-clause-itself
returns-else-are_zero-clause-itself g c = (
  λ e. absurd (cc e),
  λ h. absurd (returns-else-are_zero-clause-near g c c.args.word.now
      (near_self c.args.k c.args.word.now c.args.word.now refl h)),
)

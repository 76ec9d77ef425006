-- Known bytes that grow in steps.
use Rattle.std.proofs.Common.{◌≡◌, ◌∙◌, ◌+◌, ◌-◌, ℕ, List, [], ◌++◌, Option, Some, None, sym, ap, subst, length, take}
use Rattle.std.proofs.Common.{drop, append_assoc, append-nil, length-drop}
use Rattle.std.specs.Io.KnownBytes.{Appends, Keeps}
use Rattle.dm_text.specs.Devices.{AppendsPrefix}
use Rattle.dm_text.specs.inner.Gathering.{IsPassedOn}
use Rattle.std.proofs.Math.Seq.{take-add, take-length}

-- Known bytes that stay as they are grow by none.
pub appends_none : (a : Option (List ℕ)) → Appends a a []
appends_none None = tt
appends_none (Some xs) = sym (append-nil xs)

-- Two growths of known bytes, one after the other, are one.
pub appends_then : (a b c : Option (List ℕ)) (s t : List ℕ) → Appends a b s → Appends b c t → Appends a c (s ++ t)
appends_then None b c s t p q = tt
appends_then (Some xs) None c s t p q = absurd p
appends_then (Some xs) (Some ys) None s t p q = absurd q
appends_then (Some xs) (Some ys) (Some zs) s t p q = q ∙ ap (λ l. l ++ t) p ∙ append_assoc xs s t

-- A growth of known bytes is the same when a step follows that keeps them.
pub appends_kept : (a b c : Option (List ℕ)) (s : List ℕ) → Appends a b s → Keeps b c → Appends a c s
appends_kept None b c s p q = tt
appends_kept (Some xs) None c s p q = absurd p
appends_kept (Some xs) (Some ys) None s p q = absurd q
appends_kept (Some xs) (Some ys) (Some zs) s p q = q ∙ p

-- The slice `&bs[i..]` is all that is left after the first i bytes.
pub rest_is : (bs : List ℕ) (i : ℕ) → take (length bs - i) (drop i bs) ≡ drop i bs
rest_is bs i = ap (λ n. take n (drop i bs)) (sym (length-drop i bs)) ∙ take-length (drop i bs)

-- A growth by the first i of some bytes, and then by the next n, is one by the first i + n.
pub appends_next : (a b c : Option (List ℕ)) (bs : List ℕ) (i n : ℕ) → Appends a b (take i bs)
    → Appends b c (take n (take (length bs - i) (drop i bs))) → Appends a c (take (i + n) bs)
appends_next a b c bs i n p q =
    rw (take-add i n bs) (appends_then a b c (take i bs) (take n (drop i bs)) p (rw rest_is at q))

-- A growth, and then one by a prefix of further bytes, is one by a prefix of all of them.
pub prefix_then : (a b c : Option (List ℕ)) (s t all : List ℕ) → Appends a b s → AppendsPrefix b c t → all ≡ s ++ t →
    AppendsPrefix a c all
prefix_then a b c s t all p q e =
    (s ++ q.0, q.1, e ∙ ap (λ l. s ++ l) q.2 ∙ sym (append_assoc s q.0 q.1), appends_then a b c s q.0 p q.3)

-- A growth by a prefix of some bytes is one by a prefix of these and more.
pub prefix_of_more : (a b : Option (List ℕ)) (s t : List ℕ) → AppendsPrefix a b s → AppendsPrefix a b (s ++ t)
prefix_of_more a b s t p = (p.0, p.1 ++ t, ap (λ l. l ++ t) p.2 ∙ append_assoc p.0 p.1 t, p.3)

-- ---- bytes that are kept back for a while

-- Where no bytes come, nothing is passed on and what was held is still held.
pub passed_none : (a : Option (List ℕ)) (g : List ℕ) → IsPassedOn a g [] a g
passed_none a g = ([], append-nil g, appends_none a)

-- Where further bytes are all held, only what was passed on before is passed on.
pub passed_and_kept : (a b : Option (List ℕ)) (g h x y new : List ℕ) → IsPassedOn a g x b h → new ≡ h ++ y →
    IsPassedOn a g (x ++ y) b new
passed_and_kept a b g h x y new p e =
    (p.0, sym (append_assoc g x y) ∙ ap (λ l. l ++ y) p.1 ∙ append_assoc p.0 h y ∙ ap (λ l. p.0 ++ l) (sym e), p.2)

-- Bytes that are passed on or held, and then further ones, are passed on or held together.
pub passed_then : (a b c : Option (List ℕ)) (f g h x y : List ℕ) → IsPassedOn a f x b g → IsPassedOn b g y c h →
    IsPassedOn a f (x ++ y) c h
passed_then a b c f g h x y p q = (
  p.0 ++ q.0,
  sym (append_assoc f x y) ∙ ap (λ l. l ++ y) p.1 ∙ append_assoc p.0 g y ∙ ap (λ l. p.0 ++ l) q.1
      ∙ sym (append_assoc p.0 q.0 h),
  appends_then a b c p.0 q.0 p.2 q.2,
)

-- Once what is held is written after what was passed on, all is written.
pub passed_and_put : (a b c : Option (List ℕ)) (x h : List ℕ) → IsPassedOn a [] x b h → Appends b c h → Appends a c x
passed_and_put a b c x h p q = subst (Appends a c) (sym p.1) (appends_then a b c p.0 h p.2 q)

-- Once a prefix of what is held is written after what was passed on, a prefix of all is written.
pub passed_and_begun : (a b c : Option (List ℕ)) (x h more all : List ℕ) → IsPassedOn a [] x b h → AppendsPrefix b c h →
    all ≡ x ++ more → AppendsPrefix a c all
passed_and_begun a b c x h more all p q e =
    prefix_then a b c p.0 (h ++ more) all p.2 (prefix_of_more b c h more q) (e ∙ ap (λ l. l ++ more) p.1
    ∙ append_assoc p.0 h more)

-- Pairs of logs: which counts, and that it still counts with more entries.
use Rattle.salt_bytes.specs.Generations.{Blank, Counts, IsRead, LogA, LogB, Outside, Content, WhichLog, chosen, follows, pair_of, read_or_outside, content_of}
use Rattle.salt_stands.specs.Coordinator.{Logs, device_of}
use Rattle.salt_stands.specs.Pieces.{HasOneMore, IsSameAt, other_log}
use Rattle.std.proofs.Common.{Bool, List, None, Option, Some, [], ap, false, refl, subst, sym, true, ℕ, ◌+◌, ◌++◌, ◌≡◌, ◌∙◌, ◌∷◌}

module _ {L : Type 0} (generation : L → ℕ) where
  -- the one that counts is read
  pub is_read_a : (a b : Content L) (log : L) → pair_of generation a b ≡ Counts LogA log → a ≡ IsRead log
  is_read_a Outside b log e = cc
  is_read_a Blank Outside log e = cc
  is_read_a Blank Blank log e = cc
  is_read_a Blank (IsRead y) log e = cc
  is_read_a (IsRead x) Outside log e = cc
  is_read_a (IsRead x) Blank log e = cc
  is_read_a (IsRead x) (IsRead y) log e = by (follows (generation x) (generation y)) (follows (generation y) (generation x)) e
    where
      by : (b c : Bool) → chosen b c x y ≡ Counts LogA log → IsRead x ≡ IsRead log
      by true c e = cc
      by false true e = cc
      by false false e = cc

  pub is_read_b : (a b : Content L) (log : L) → pair_of generation a b ≡ Counts LogB log → b ≡ IsRead log
  is_read_b Outside b log e = cc
  is_read_b Blank Outside log e = cc
  is_read_b Blank Blank log e = cc
  is_read_b Blank (IsRead y) log e = cc
  is_read_b (IsRead x) Outside log e = cc
  is_read_b (IsRead x) Blank log e = cc
  is_read_b (IsRead x) (IsRead y) log e = by (follows (generation x) (generation y)) (follows (generation y) (generation x)) e
    where
      by : (b c : Bool) → chosen b c x y ≡ Counts LogB log → IsRead y ≡ IsRead log
      by true c e = cc
      by false true e = cc
      by false false e = cc

  -- it counts as well where it says more under the same generation
  pub again_a : (b : Content L) (log more : L) → generation more ≡ generation log → pair_of generation (IsRead log) b ≡ Counts LogA log → pair_of generation (IsRead more) b ≡ Counts LogA more
  again_a Outside log more g e = cc
  again_a Blank log more g e = refl
  again_a (IsRead y) log more g e = by (generation more) g
    where
      cases : (b c : Bool) → chosen b c log y ≡ Counts LogA log → chosen b c more y ≡ Counts LogA more
      cases true c e = cc
      cases false true e = refl
      cases false false e = cc

      by : (n : ℕ) → n ≡ generation log → chosen (follows n (generation y)) (follows (generation y) n) more y ≡ Counts LogA more
      by n h = subst (λ (m : ℕ). chosen (follows m (generation y)) (follows (generation y) m) more y ≡ Counts LogA more) (sym h) (cases (follows (generation log) (generation y)) (follows (generation y) (generation log)) e)

  pub again_b : (a : Content L) (log more : L) → generation more ≡ generation log → pair_of generation a (IsRead log) ≡ Counts LogB log → pair_of generation a (IsRead more) ≡ Counts LogB more
  again_b Outside log more g e = cc
  again_b Blank log more g e = refl
  again_b (IsRead x) log more g e = by (generation more) g
    where
      cases : (b c : Bool) → chosen b c x log ≡ Counts LogB log → chosen b c x more ≡ Counts LogB more
      cases true c e = refl
      cases false true e = cc
      cases false false e = cc

      by : (n : ℕ) → n ≡ generation log → chosen (follows (generation x) n) (follows n (generation x)) x more ≡ Counts LogB more
      by n h = subst (λ (m : ℕ). chosen (follows (generation x) m) (follows m (generation x)) x more ≡ Counts LogB more) (sym h) (cases (follows (generation x) (generation log)) (follows (generation log) (generation x)) e)

  -- it counts as well where the other one is blank
  pub alone_a : (b : Content L) (log : L) → pair_of generation (IsRead log) b ≡ Counts LogA log → pair_of generation (IsRead log) Blank ≡ Counts LogA log
  alone_a b log e = refl

-- with one more entry the log is read as more
pub reads_push : {L : Type 0} (read : List (List ℕ) → Option L) (es : List (List ℕ)) (payload : List ℕ) (log more : L) → content_of read (Some es) ≡ IsRead log → (read es ≡ Some log → read (es ++ payload ∷ []) ≡ Some more) → content_of read (Some (es ++ payload ∷ [])) ≡ IsRead more
reads_push read [] payload log more e step = cc
reads_push {L = L} read (x ∷ xs) payload log more e step = ap read_or_outside (step (was (read (x ∷ xs)) e))
  where
    was : (o : Option L) → read_or_outside o ≡ IsRead log → o ≡ Some log
    was None e = cc
    was (Some y) e = cc

pub pair_push : {L : Type 0} (generation : L → ℕ) (read : List (List ℕ) → Option L) (dev : ℕ) (old new : Logs) (which : WhichLog) (log more : L) (payload : List ℕ)
    → pair_of generation (content_of read (old dev)) (content_of read (old (dev + 1))) ≡ Counts which log
    → HasOneMore old new (device_of dev which) payload → IsSameAt (device_of dev (other_log which)) old new
    → generation more ≡ generation log → ((es : List (List ℕ)) → read es ≡ Some log → read (es ++ payload ∷ []) ≡ Some more)
    → pair_of generation (content_of read (new dev)) (content_of read (new (dev + 1))) ≡ Counts which more
pair_push generation read dev old new LogA log more payload counts one same g step =
    let was : content_of read (old dev) ≡ IsRead log = is_read_a generation (content_of read (old dev)) (content_of read (old (dev + 1))) log counts in
    let is : content_of read (new dev) ≡ IsRead more = ap (content_of read) one.after ∙ reads_push read one.entries payload log more (sym (ap (content_of read) one.before) ∙ was) (step one.entries) in
    let other : new (dev + 1) ≡ old (dev + 1) = same in
    ap (λ x. pair_of generation x (content_of read (new (dev + 1)))) is ∙ ap (λ o. pair_of generation (IsRead more) (content_of read o)) other ∙ again_a generation (content_of read (old (dev + 1))) log more g (sym (ap (λ x. pair_of generation x (content_of read (old (dev + 1)))) was) ∙ counts)
pair_push generation read dev old new LogB log more payload counts one same g step =
    let was : content_of read (old (dev + 1)) ≡ IsRead log = is_read_b generation (content_of read (old dev)) (content_of read (old (dev + 1))) log counts in
    let is : content_of read (new (dev + 1)) ≡ IsRead more = ap (content_of read) one.after ∙ reads_push read one.entries payload log more (sym (ap (content_of read) one.before) ∙ was) (step one.entries) in
    let other : new dev ≡ old dev = same in
    ap (λ x. pair_of generation (content_of read (new dev)) x) is ∙ ap (λ o. pair_of generation (content_of read o) (IsRead more)) other ∙ again_b generation (content_of read (old dev)) log more g (sym (ap (λ x. pair_of generation (content_of read (old dev)) x) was) ∙ counts)

-- and where neither of its devices changes
pub pair_same : {L : Type 0} (generation : L → ℕ) (read : List (List ℕ) → Option L) (dev : ℕ) (old new : Logs) → new dev ≡ old dev → new (dev + 1) ≡ old (dev + 1) → pair_of generation (content_of read (new dev)) (content_of read (new (dev + 1))) ≡ pair_of generation (content_of read (old dev)) (content_of read (old (dev + 1)))
pair_same generation read dev old new a b = ap (λ o. pair_of generation (content_of read o) (content_of read (new (dev + 1)))) a ∙ ap (λ o. pair_of generation (content_of read (old dev)) (content_of read o)) b

-- The pair that was read is the coordinator's, as each device holds what was read of it.
use Rattle.salt_bytes.specs.Generations as pair
use Rattle.salt_bytes.specs.Generations.{chosen, content_of, follows, pair_of, read_or_outside}
use Rattle.salt_bytes.specs.Log.{entries_in}
use Rattle.salt_decisions.proofs.Contents.{log_bytes}
use Rattle.salt_decisions.specs.Pair.{HasPair, contents, generation_of}
use Rattle.salt_decisions.specs.Read.{HasContent, IsReadLog}
use Rattle.salt_decisions.specs.declared.read.Content.TheVariants.{Blank, Log, Outside}
use Rattle.salt_decisions.specs.declared.read.Content.{Content}
use Rattle.salt_decisions.specs.declared.read.ReadLog.{ReadLog}
use Rattle.salt_disk.specs.Disks.{KeepsAll, View}
use Rattle.salt_gatelog.proofs.Frame.{log_kept}
use Rattle.salt_gatelog.specs.Log.{device_of}
use Rattle.salt_stands.specs.Coordinator.{coordinator_pair}
use Rattle.salt_stands.specs.CoordinatorLog.{CoordinatorLog, coordinator_generation, coordinator_in}
use Rattle.salt_stands.specs.Stands.{logs_of}
use Rattle.std.proofs.Common.{Bool, IsTrue, List, None, Some, [], ap, false, sym, true, ℕ, ◌≡◌, ◌∙◌, ◌∷◌}

-- after calls that write nothing a device holds what it held
pub content_kept : (d e : View) (dev : ℕ) (x : Content) → KeepsAll d e None → HasContent d dev x → HasContent e dev x
content_kept d e dev Blank keeps h = λ told. ap entries_in (keeps.kept dev (λ none. none)).bytes ∙ h (sym keeps.shape.told ∙ told)
content_kept d e dev (Log r) keeps h = record {
  log = h.log;
  is_of = h.is_of;
  entries = h.entries;
  is_log = log_kept d e r.gate h.entries keeps.shape (keeps.kept (device_of r.gate) (λ none. none)) h.is_log;
  device = h.device;
  says = λ told. h.says (sym keeps.shape.told ∙ told);
}
content_kept d e dev Outside keeps h = λ told. ap (λ bytes. content_of coordinator_in (entries_in bytes)) (keeps.kept dev (λ none. none)).bytes ∙ h (sym keeps.shape.told ∙ told)

module _ (d : View) (dev : ℕ) where
  blank_is : IsTrue d.told → HasContent d dev Blank → content_of coordinator_in (entries_in (d.bytes dev)) ≡ pair.Blank
  blank_is told h = ap (content_of coordinator_in) (h told)

  log_is : (r : ReadLog) (h : IsReadLog d dev r) → IsTrue d.told → content_of coordinator_in (entries_in (d.bytes dev)) ≡ pair.IsRead h.log
  log_is r h told = ap (λ x. content_of coordinator_in (entries_in (d.bytes x))) (sym h.device) ∙ ap (content_of coordinator_in) (log_bytes d r.gate h.entries told h.is_log) ∙ some h.entries (h.says told)
    where
      some : (es : List (List ℕ)) → coordinator_in es ≡ Some h.log → content_of coordinator_in (Some es) ≡ pair.IsRead h.log
      some [] e = cc
      some (x ∷ xs) e = ap read_or_outside e

module _ (d : View) where
  by_both : (a b : pair.Content CoordinatorLog) → content_of coordinator_in (entries_in (d.bytes 0)) ≡ a → content_of coordinator_in (entries_in (d.bytes 1)) ≡ b
      → coordinator_pair (logs_of d.bytes) ≡ pair_of coordinator_generation a b
  by_both a b x y = ap (λ z. pair_of coordinator_generation z (content_of coordinator_in (entries_in (d.bytes 1)))) x ∙ ap (λ z. pair_of coordinator_generation a z) y

  later_pair : (r s : ReadLog) (h : IsReadLog d 0 r) (k : IsReadLog d 1 s) (b c : Bool) → (follows h.log.header.generation k.log.header.generation) ≡ b → (follows k.log.header.generation h.log.header.generation) ≡ c
      → HasPair d (chosen b c r s)
  later_pair r s h k true c e f = record {
    read = k;
    counts = λ told. by_both (pair.IsRead h.log) (pair.IsRead k.log) (log_is d 0 r h told) (log_is d 1 s k told) ∙ ap (λ x. chosen x (follows k.log.header.generation h.log.header.generation) h.log k.log) e;
  }
  later_pair r s h k false true e f = record {
    read = h;
    counts = λ told.
        by_both (pair.IsRead h.log) (pair.IsRead k.log) (log_is d 0 r h told) (log_is d 1 s k told) ∙ ap (λ x. chosen x (follows k.log.header.generation h.log.header.generation) h.log k.log) e
        ∙ ap (λ x. chosen false x h.log k.log) f;
  }
  later_pair r s h k false false e f = λ told.
      by_both (pair.IsRead h.log) (pair.IsRead k.log) (log_is d 0 r h told) (log_is d 1 s k told) ∙ ap (λ x. chosen x (follows k.log.header.generation h.log.header.generation) h.log k.log) e
      ∙ ap (λ x. chosen false x h.log k.log) f

  pub has_pair : (a b : Content) → HasContent d 0 a → HasContent d 1 b → HasPair d (pair_of generation_of (contents a) (contents b))
  has_pair Outside b h k = λ told. ap (λ z. pair_of coordinator_generation z (content_of coordinator_in (entries_in (d.bytes 1)))) (h told)
  has_pair Blank Outside h k = λ told. by_both pair.Blank pair.Outside (blank_is d 0 told h) (k told)
  has_pair (Log r) Outside h k = λ told. by_both (pair.IsRead h.log) pair.Outside (log_is d 0 r h told) (k told)
  has_pair Blank Blank h k = λ told. by_both pair.Blank pair.Blank (blank_is d 0 told h) (blank_is d 1 told k)
  has_pair Blank (Log s) h k = record { read = k; counts = λ told. by_both pair.Blank (pair.IsRead k.log) (blank_is d 0 told h) (log_is d 1 s k told) }
  has_pair (Log r) Blank h k = record { read = h; counts = λ told. by_both (pair.IsRead h.log) pair.Blank (log_is d 0 r h told) (blank_is d 1 told k) }
  has_pair (Log r) (Log s) h k =
      later_pair r s h k (follows r.generation s.generation) (follows s.generation r.generation)
      (ap (λ n. follows n k.log.header.generation) (sym h.is_of.generation) ∙ ap (λ n. follows r.generation n) (sym k.is_of.generation))
      (ap (λ n. follows n h.log.header.generation) (sym k.is_of.generation) ∙ ap (λ n. follows s.generation n) (sym h.is_of.generation))

-- the pair is as it was
pub pair_kept : (d e : View) → KeepsAll d e None → coordinator_pair (logs_of e.bytes) ≡ coordinator_pair (logs_of d.bytes)
pair_kept d e keeps =
    let a = content_of coordinator_in (entries_in (d.bytes 0)) in
    let b = content_of coordinator_in (entries_in (e.bytes 1)) in
    ap (λ bytes. pair_of coordinator_generation (content_of coordinator_in (entries_in bytes)) b) (keeps.kept 0 (λ none. none)).bytes
    ∙ ap (λ bytes. pair_of coordinator_generation a (content_of coordinator_in (entries_in bytes))) (keeps.kept 1 (λ none. none)).bytes

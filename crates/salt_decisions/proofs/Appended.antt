-- The log that counts, with one entry more.
use Rattle.salt_bytes.proofs.Logs.{reads_entry}
use Rattle.salt_bytes.specs.Coordinator.{CoordinatorEntry, entry_in, spell_entry}
use Rattle.salt_bytes.specs.Generations.{LogA, LogB, WhichLog}
use Rattle.salt_bytes.specs.Log.{entries_in}
use Rattle.salt_bytes.specs.Spellable.{IsSpellableEntry}
use Rattle.salt_decisions.proofs.Contents.{log_bytes}
use Rattle.salt_decisions.specs.Decisions.{IsBeforeOrWith, IsCounting, log_with}
use Rattle.salt_disk.specs.Disks.{EachImage, KeepsOthers, View}
use Rattle.salt_disk.specs.declared.disks.DiskErr.{DiskErr}
use Rattle.salt_gatelog.specs.Log as gates
use Rattle.salt_gatelog.specs.Log.{IsLog}
use Rattle.salt_gatelog.specs.declared.log.GateLog.{GateLog}
use Rattle.salt_stands.proofs.CoordinatorLogs.{coordinator_push}
use Rattle.salt_stands.proofs.Pairs.{pair_push}
use Rattle.salt_stands.specs.Coordinator.{device_of}
use Rattle.salt_stands.specs.CoordinatorLog.{CoordinatorLog, Told, coordinator_generation, coordinator_in, tell}
use Rattle.salt_stands.specs.Pieces.{HasOneMore, IsSameAt, other_log}
use Rattle.salt_stands.specs.Stands.{logs_of}
use Rattle.std.proofs.Common.{Err, IsTrue, List, None, Ok, OnErr, OnOk, Result, Some, [], ap, arith, inl, inr, refl, subst, sym, ℕ, ◌+◌, ◌++◌, ◌≡◌, ◌≢◌, ◌∙◌, ◌∷◌}
use Rattle.std.proofs.lemmas.Bool.Decides.{Decides-eqb}
use Rattle.std.specs.Prelude.{◌==◌}
use Rattle.std.specs.Result.{result_err}
use Rattle.std.specs.Bool.{then_some}

pub on_err : {A E P : Type 0} (r : Result A E) → P → OnErr r P
on_err (Ok made) h = tt
on_err (Err err) h = h

pub other_dev : (which : WhichLog) → device_of 0 (other_log which) ≢ device_of 0 which
other_dev LogA e = omega (arith, e)
other_dev LogB e = omega (arith, e)

module _ (d e : View) (gate : GateLog) (payload : List ℕ) (which : WhichLog) (log : CoordinatorLog) (h : IsCounting d gate which log) where
  module _ (gate' : GateLog) (entry : CoordinatorEntry) (now : Told) (reads : entry_in log.header.shape.parts payload ≡ Some entry) (tells : tell log.told entry ≡ Some now)
      (same : gates.device_of gate' ≡ gates.device_of gate) where
    appended : KeepsOthers (gates.device_of gate) d e None → IsLog e gate' (h.entries ++ payload ∷ []) → IsCounting e gate' which (log_with log now)
    appended keeps is = record {
      entries = h.entries ++ payload ∷ [];
      is_log = is;
      device = same ∙ h.device;
      known = omega (arith, h.known, keeps.shape.count);
      other = λ c left. h.other c (keeps.images (device_of 0 (other_log which)) apart c left) ∙ sym (keeps.kept (device_of 0 (other_log which)) apart).bytes;
      counts = λ told.
          let was : IsTrue d.told = sym keeps.shape.told ∙ told in
          let one : HasOneMore (logs_of d.bytes) (logs_of e.bytes) (device_of 0 which) payload = record {
            entries = h.entries;
            before = ap (λ dev. entries_in (d.bytes dev)) (sym h.device) ∙ log_bytes d gate h.entries was h.is_log;
            after = ap (λ dev. entries_in (e.bytes dev)) (sym h.device ∙ sym same) ∙ log_bytes e gate' (h.entries ++ payload ∷ []) told is;
          } in
          let others : IsSameAt (device_of 0 (other_log which)) (logs_of d.bytes) (logs_of e.bytes) = ap entries_in (keeps.kept (device_of 0 (other_log which)) apart).bytes in
          pair_push coordinator_generation coordinator_in 0 (logs_of d.bytes) (logs_of e.bytes) which log (log_with log now) payload (h.counts was) one others refl
          (λ es is. coordinator_push payload entry now es log is reads tells);
    }
      where
        apart : ¬ (device_of 0 (other_log which) ≡ gates.device_of gate)
        apart x = other_dev which (x ∙ h.device)

    pub ok_appended : {T : Type 0} (r : Result T DiskErr) → KeepsOthers (gates.device_of gate) d e (result_err r) → OnOk r (IsLog e gate' (h.entries ++ payload ∷ [])) → OnOk r (IsCounting e gate' which (log_with log now))
    ok_appended (Ok x) keeps is = appended keeps is
    ok_appended (Err y) keeps is = tt

  pub before_or_with : (told : IsTrue e.told → IsTrue d.told) → EachImage e (gates.device_of gate) (gates.IsBeforeOrWith h.entries payload) → EachImage e (device_of 0 which) (IsBeforeOrWith (d.bytes (device_of 0 which)) payload)
  before_or_with told each = subst (λ dev. EachImage e dev (IsBeforeOrWith (d.bytes dev) payload)) h.device (λ t c left. by t c (each t c left))
    where
      by : IsTrue e.told → (c : List ℕ) → gates.IsBeforeOrWith h.entries payload c → IsBeforeOrWith (d.bytes (gates.device_of gate)) payload c
      by t c (inl same) = inl (same ∙ sym (log_bytes d gate h.entries (told t) h.is_log))
      by t c (inr more) = inr (record { entries = h.entries; was = log_bytes d gate h.entries (told t) h.is_log; now = more })

-- an image has an entry that is spelled so
pub spelled_so : (e : View) (dev : ℕ) (bytes a b : List ℕ) → a ≡ b → EachImage e dev (IsBeforeOrWith bytes a) → EachImage e dev (IsBeforeOrWith bytes b)
spelled_so e dev bytes a b same each = subst (λ p. EachImage e dev (IsBeforeOrWith bytes p)) same each

-- the entry that was spelled is read
pub read_so : (parts : ℕ) (entry : CoordinatorEntry) (a b : List ℕ) → a ≡ b → b ≡ spell_entry entry → IsSpellableEntry parts entry → entry_in parts a ≡ Some entry
read_so parts entry a b same is good = ap (entry_in parts) (same ∙ is) ∙ reads_entry parts entry good

-- and follows on
pub next_told : {A : Type 0} (n m : ℕ) (x : A) → n ≡ m → then_some (n + 1 == m + 1) x ≡ Some x
next_told n m x e = ap (λ b. then_some b x) ((Decides-eqb (n + 1) (m + 1)).1 (omega (arith, e)))

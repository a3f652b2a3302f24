-- What a device holds, by what was read of it.
use Rattle.salt_bytes.specs.Coordinator.{header_in, is_number_of_parts}
use Rattle.salt_bytes.specs.Generations as pair
use Rattle.salt_bytes.specs.Generations.{content_of, read_or_outside}
use Rattle.salt_bytes.specs.Log.{entries_in}
use Rattle.salt_decisions.specs.Header.{header_of}
use Rattle.salt_decisions.specs.Read.{HasContent, HearsAll, IsReadLog}
use Rattle.salt_decisions.specs.Said.{SaysTold}
use Rattle.salt_decisions.specs.declared.header.Header.{Header}
use Rattle.salt_decisions.specs.declared.read.Content.TheVariants.{Outside}
use Rattle.salt_decisions.specs.declared.read.ReadLog.{ReadLog}
use Rattle.salt_decisions.specs.declared.said.Said.{Said}
use Rattle.salt_disk.specs.Disks.{View}
use Rattle.salt_gatelog.proofs.Bytes.{entries_in-closed}
use Rattle.salt_gatelog.specs.Log.{IsLog, device_of}
use Rattle.salt_gatelog.specs.declared.log.GateLog.{GateLog}
use Rattle.salt_stands.specs.CoordinatorLog.{coordinator_in, heard, told_by_header, with_told}
use Rattle.std.proofs.Common.{IsTrue, List, None, Some, [], ap, arith, drop, false, slice_get, sym, true, ℕ, ◌≡◌, ◌∙◌, ◌∷◌}
use Rattle.std.specs.Prelude.{option_and_then}

-- the bytes of a log's device stand for its entries
pub log_bytes : (d : View) (gate : GateLog) (entries : List (List ℕ)) → IsTrue d.told → IsLog d gate entries → entries_in (d.bytes (device_of gate)) ≡ Some entries
log_bytes d gate entries told is = entries_in-closed entries (d.bytes gate.dev) (omega (arith, is.end, is.room)) (is.file told)

first_of : (entries : List (List ℕ)) (first : List ℕ) → Some first ≡ slice_get entries 0 → entries ≡ first ∷ drop 1 entries
first_of [] first e = cc
first_of (x ∷ xs) first e = ap (λ p. p ∷ xs) same
  where
    same : x ≡ first
    same = cc

-- entries that are no coordinator's log
pub outside : (entries : List (List ℕ)) (first : List ℕ) (bytes : List ℕ) → Some first ≡ slice_get entries 0 → entries_in bytes ≡ Some entries
    → coordinator_in (first ∷ drop 1 entries) ≡ None → content_of coordinator_in (entries_in bytes) ≡ pair.Outside
outside entries first bytes is stands none = ap (content_of coordinator_in) (stands ∙ ap (λ (es : List (List ℕ)). Some es) (first_of entries first is)) ∙ ap read_or_outside none

pub no_header : (first : List ℕ) (ps : List (List ℕ)) → header_in first ≡ None → coordinator_in (first ∷ ps) ≡ None
no_header first ps none = ap (option_and_then (λ h. with_told h (heard h.shape.parts (Some (told_by_header h)) ps))) none

module _ (header : Header) (first : List ℕ) (reads : header_in first ≡ Some (header_of header)) where
  by_header : (ps : List (List ℕ)) → coordinator_in (first ∷ ps) ≡ with_told (header_of header) (heard header.shape.parts (Some (told_by_header (header_of header))) ps)
  by_header ps = ap (option_and_then (λ h. with_told h (heard h.shape.parts (Some (told_by_header h)) ps))) reads

  module _ (d e : View) (gate gate' : GateLog) (entries : List (List ℕ)) (is : IsLog d gate entries) (stands : IsTrue d.told → Some first ≡ slice_get entries 0) (said : Said)
      (is' : IsLog e gate' entries) (same : device_of gate' ≡ device_of gate) (told : IsTrue e.told → IsTrue d.told) where
    pub read_all : (conts : ReadLog) → conts.gate ≡ gate' → conts.format ≡ header.format → conts.generation ≡ header.generation → conts.shape ≡ header.shape → conts.conts ≡ header.conts → is_number_of_parts header.shape.parts ≡ true → conts.said ≡ said
        → HearsAll d gate header.shape.parts (told_by_header (header_of header)) said true → IsReadLog e (device_of gate) conts
    read_all r g f n s cs p w h = record {
      log = record { header = header_of header; told = h.now };
      is_of = record { format = f; generation = n; shape = s; conts = cs; parts = ap (λ x. is_number_of_parts x.parts) s ∙ p; says = Rattle.std.proofs.Common.subst (λ (x : Said). SaysTold x h.now) (sym w) h.says };
      entries = entries;
      is_log = Rattle.std.proofs.Common.subst (λ (x : GateLog). IsLog e x entries) (sym g) is';
      device = ap device_of g ∙ same;
      says = λ t.
          ap coordinator_in (first_of entries first (stands (told t))) ∙ by_header (drop 1 entries)
          ∙ ap (λ ps. with_told (header_of header) (heard header.shape.parts (Some (told_by_header (header_of header))) ps)) (sym (h.stand entries is (told t)))
          ∙ ap (with_told (header_of header)) h.is_heard;
    }

    pub read_none : HearsAll d gate header.shape.parts (told_by_header (header_of header)) said false → HasContent e (device_of gate) Outside
    read_none h t =
        outside entries first (e.bytes (device_of gate)) (stands (told t)) (ap (λ dev. entries_in (e.bytes dev)) (sym same) ∙ log_bytes e gate' entries t is')
        (by_header (drop 1 entries) ∙ ap (with_told (header_of header)) (h entries is (told t)))

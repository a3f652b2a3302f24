-- A coordinator's log that is begun, and one that is opened.
use Rattle.salt_bytes.proofs.Logs.{reads_header}
use Rattle.salt_bytes.specs.Coordinator.{header_in, is_number_of_parts}
use Rattle.salt_bytes.specs.Generations as pair
use Rattle.salt_bytes.specs.Generations.{BothBlank, Content, LogA, LogB, WhichLog, chosen, content_of, follows, pair_of, read_or_outside}
use Rattle.salt_bytes.specs.Log.{entries_in}
use Rattle.salt_bytes.specs.Spellable.{IsSpellableHeader}
use Rattle.salt_decisions.proofs.Contents.{log_bytes}
use Rattle.salt_decisions.specs.Decisions.{HoldsLog, IsCounting, IsDecisions}
use Rattle.salt_decisions.specs.Opened.{FullAtFirst, IsBlankImage, IsFirstImage, begun, first_payload}
use Rattle.salt_decisions.specs.Pair.{IsCounted}
use Rattle.salt_decisions.specs.declared.decisions.Decisions.{Decisions}
use Rattle.salt_decisions.specs.declared.read.ReadLog.{ReadLog}
use Rattle.salt_disk.proofs.CallAfterCall.{each_shrinks, keeps_on, keeps_wider}
use Rattle.salt_disk.specs.Disks.{EachImage, FullOnly, IsSettled, IsUnchanged, KeepsAll, KeepsBut, KeepsOthers, OnlyFails, SameShape, View}
use Rattle.salt_disk.specs.declared.disks.DiskErr.TheVariants.{Failed, Full, Memory, Stopped}
use Rattle.salt_disk.specs.declared.disks.DiskErr.{DiskErr}
use Rattle.salt_gatelog.specs.Log as gates
use Rattle.salt_gatelog.specs.Log.{HasClosedGate, IsLog}
use Rattle.salt_gatelog.specs.declared.log.GateLog.{GateLog}
use Rattle.salt_stands.proofs.FirstOpening.{is_created}
use Rattle.salt_stands.proofs.Pairs.{pair_same}
use Rattle.salt_stands.specs.Coordinator.{Logs, coordinator_pair, device_of}
use Rattle.salt_stands.specs.CoordinatorLog.{coordinator_generation, coordinator_in, heard, told_by_header, with_told}
use Rattle.salt_stands.specs.FirstOpening.{IsCreated, first_header}
use Rattle.salt_stands.specs.LogDevices.{IsCoordinatorLog}
use Rattle.salt_stands.specs.Pieces.{other_log}
use Rattle.salt_stands.specs.Stands.{is_same_kind, is_same_shape, logs_of}
use Rattle.salt_place.specs.Placement.{IsParts}
use Rattle.salt_place.specs.declared.placement.PlaceKind.TheVariants.{Bands, Remainder}
use Rattle.salt_place.specs.declared.placement.PlaceKind.{PlaceKind}
use Rattle.salt_place.specs.declared.placement.Shape.{Shape}
use Rattle.std.proofs.Common.{Bool, IsTrue, List, None, Option, Some, [], ap, arith, false, inl, inr, length, refl, subst, sym, true, ℕ, ◌+◌, ◌<◌, ◌≡◌, ◌≢◌, ◌≤◌, ◌⊎◌, ◌∙◌, ◌∷◌}
use Rattle.std.proofs.lemmas.Bool.Decides.{Decides-eqb, nat_tests}
use Rattle.std.specs.Prelude.{◌&&◌, option_and_then}

-- BLANK DEVICES

both_blank : {L : Type 0} (generation : L → ℕ) (a b : Content L) → pair_of generation a b ≡ BothBlank → (a ≡ pair.Blank) × (b ≡ pair.Blank)
both_blank generation pair.Outside b e = cc
both_blank generation pair.Blank pair.Outside e = cc
both_blank generation pair.Blank pair.Blank e = (refl, refl)
both_blank generation pair.Blank (pair.IsRead y) e = cc
both_blank generation (pair.IsRead x) pair.Outside e = cc
both_blank generation (pair.IsRead x) pair.Blank e = cc
both_blank {L = L} generation (pair.IsRead x) (pair.IsRead y) e = absurd (by (follows (generation x) (generation y)) (follows (generation y) (generation x)) e)
  where
    by : (b c : Bool) → chosen b c x y ≡ BothBlank → ⊥
    by true c e = cc
    by false true e = cc
    by false false e = cc

content_blank : {L : Type 0} (read : List (List ℕ) → Option L) (o : Option (List (List ℕ))) → content_of read o ≡ pair.Blank → o ≡ Some []
content_blank read None e = cc
content_blank read (Some []) e = refl
content_blank {L = L} read (Some (x ∷ xs)) e = absurd (by (read (x ∷ xs)) e)
  where
    by : (o : Option L) → read_or_outside o ≡ pair.Blank → ⊥
    by None e = cc
    by (Some y) e = cc

pub blank_a : (bytes : ℕ → List ℕ) → coordinator_pair (logs_of bytes) ≡ BothBlank → entries_in (bytes 0) ≡ Some []
blank_a bytes e = content_blank coordinator_in (entries_in (bytes 0)) (both_blank coordinator_generation (content_of coordinator_in (entries_in (bytes 0))) (content_of coordinator_in (entries_in (bytes 1))) e).0

pub blank_b : (bytes : ℕ → List ℕ) → coordinator_pair (logs_of bytes) ≡ BothBlank → entries_in (bytes 1) ≡ Some []
blank_b bytes e = content_blank coordinator_in (entries_in (bytes 1)) (both_blank coordinator_generation (content_of coordinator_in (entries_in (bytes 0))) (content_of coordinator_in (entries_in (bytes 1))) e).1

pub blank_image : (d : View) (dev : ℕ) → IsSettled d dev → (IsTrue d.told → entries_in (d.bytes dev) ≡ Some []) → EachImage d dev IsBlankImage
blank_image d dev settled blank told c left = ap entries_in (settled c left) ∙ blank told

-- after a device was made blank
pub made_blank : (d e : View) (dev : ℕ) → SameShape d e → (IsTrue d.told → entries_in (d.bytes dev) ≡ Some []) → EachImage e dev (λ c. (entries_in c ≡ Some []) ⊎ (c ≡ d.bytes dev)) → EachImage e dev IsBlankImage
made_blank d e dev shape blank each told c left = by (each told c left)
  where
    by : (entries_in c ≡ Some []) ⊎ (c ≡ d.bytes dev) → entries_in c ≡ Some []
    by (inl is) = is
    by (inr same) = ap entries_in same ∙ blank (sym shape.told ∙ told)

pub first_blank : (e : View) (asked : Shape) → EachImage e 0 IsBlankImage → EachImage e 0 (IsFirstImage asked)
first_blank e asked each told c left = inl (each told c left)

pub one_zero : ◌≢◌ {A = ℕ} 1 0
one_zero e = omega (arith, e)

pub zero_one : ◌≢◌ {A = ℕ} 0 1
zero_one e = omega (arith, e)

-- what is done to log A changes nothing of log B, and the other way round
pub b_stays : (d e : View) (answer : Option DiskErr) (P : List ℕ → Type 0) → KeepsOthers 0 d e answer → EachImage d 1 P → EachImage e 1 P
b_stays d e answer P keeps each = each_shrinks d e 1 P keeps.shape (keeps.images 1 one_zero) each

pub a_stays : (d e : View) (answer : Option DiskErr) (P : List ℕ → Type 0) → KeepsOthers 1 d e answer → EachImage d 0 P → EachImage e 0 P
a_stays d e answer P keeps each = each_shrinks d e 0 P keeps.shape (keeps.images 0 zero_one) each

pub keeps_of_a : (d e : View) (answer : Option DiskErr) → KeepsOthers 0 d e answer → KeepsBut IsCoordinatorLog d e answer
keeps_of_a d e answer keeps = keeps_wider (λ dev. dev ≡ 0) IsCoordinatorLog d e answer (λ dev is. inl is) keeps

pub keeps_of_b : (d e : View) (answer : Option DiskErr) → KeepsOthers 1 d e answer → KeepsBut IsCoordinatorLog d e answer
keeps_of_b d e answer keeps = keeps_wider (λ dev. dev ≡ 1) IsCoordinatorLog d e answer (λ dev is. inr is) keeps

-- THE FIRST HEADER

pub are_parts : (asked : Shape) → IsParts asked.parts → is_number_of_parts asked.parts ≡ true
are_parts asked parts = grind (arith, nat_tests)

pub first_is_spellable : (asked : Shape) → IsParts asked.parts → IsSpellableHeader (first_header asked 3)
first_is_spellable asked parts = record {
  format = refl;
  generation = omega arith;
  first = refl;
  parts = are_parts asked parts;
  boot = omega arith;
  decisions = omega arith;
  count = omega arith;
  definitions = tt;
  open_count = omega arith;
  conts = tt;
}

pub first_log : (asked : Shape) (payload : List ℕ) → IsParts asked.parts → payload ≡ first_payload asked → coordinator_in (payload ∷ []) ≡ Some (begun asked)
first_log asked payload parts is =
    ap (option_and_then (λ h. with_told h (heard h.shape.parts (Some (told_by_header h)) []))) (ap header_in is ∙ reads_header (first_header asked 3) (first_is_spellable asked parts))

settled_kept : (d e : View) (dev : ℕ) → IsUnchanged d e dev → IsSettled d dev → IsSettled e dev
settled_kept d e dev same settled c left = settled c (same.images c left) ∙ sym same.bytes

module _ (asked : Shape) (d0 d1 d2 d3 : View) (other gate gate' : GateLog) (payload : List ℕ) (parts : IsParts asked.parts) (is : payload ≡ first_payload asked) (known : 1 < d0.count)
    (b_device : gates.device_of other ≡ 1) (b_log : IsLog d1 other []) (first : KeepsOthers 1 d0 d1 None)
    (a_device : gates.device_of gate ≡ 0) (second : KeepsOthers 0 d1 d2 None) (third : KeepsOthers 0 d2 d3 None)
    (same : gates.device_of gate' ≡ gates.device_of gate) (a_log : IsLog d3 gate' (payload ∷ [])) where
  b_bytes : IsTrue d3.told → entries_in (d3.bytes 1) ≡ Some []
  b_bytes told =
      ap entries_in ((third.kept 1 one_zero).bytes ∙ (second.kept 1 one_zero).bytes) ∙ ap (λ dev. entries_in (d1.bytes dev)) (sym b_device)
      ∙ log_bytes d1 other [] (sym second.shape.told ∙ sym third.shape.told ∙ told) b_log

  pub begun_counts : IsCounting d3 gate' LogA (begun asked)
  begun_counts = record {
    entries = payload ∷ [];
    is_log = a_log;
    device = same ∙ a_device;
    known = omega (arith, known, first.shape.count, second.shape.count, third.shape.count);
    other = settled_kept d2 d3 1 (third.kept 1 one_zero) (settled_kept d1 d2 1 (second.kept 1 one_zero) (subst (λ dev. IsSettled d1 dev) b_device b_log.settled));
    counts = λ told.
        ap (λ o. pair_of coordinator_generation (content_of coordinator_in o) (content_of coordinator_in (entries_in (d3.bytes 1)))) (ap (λ dev. entries_in (d3.bytes dev)) (sym a_device ∙ sym same) ∙ log_bytes d3 gate' (payload ∷ []) told a_log)
        ∙ ap (λ x. pair_of coordinator_generation (read_or_outside x) (content_of coordinator_in (entries_in (d3.bytes 1)))) (first_log asked payload parts is)
        ∙ ap (λ o. pair_of coordinator_generation (pair.IsRead (begun asked)) (content_of coordinator_in o)) (b_bytes told);
  }

  pub begun_keeps : KeepsBut IsCoordinatorLog d0 d3 None
  begun_keeps = keeps_on IsCoordinatorLog d0 d2 d3 None (keeps_on IsCoordinatorLog d0 d1 d2 None (keeps_of_b d0 d1 None first) (keeps_of_a d1 d2 None second)) (keeps_of_a d2 d3 None third)

-- WHERE A DEVICE IS FULL nothing was begun

-- log B is created there
pub full_b : (d e : View) (payload : List ℕ) (answer : Option DiskErr) → SameShape d e → (HasClosedGate (d.bytes 1) → OnlyFails answer) → ((n : ℕ) → answer ≡ Some (Full n) → IsUnchanged d e 1) → FullOnly 1 (d.limit 1) 1 answer
    → FullAtFirst e payload answer
full_b d e payload None shape closed same full = tt
full_b d e payload (Some Failed) shape closed same full = tt
full_b d e payload (Some Stopped) shape closed same full = tt
full_b d e payload (Some (Full n)) shape closed same full =
    inl (full.0, subst IsCreated (sym (same n refl).bytes) (is_created (d.bytes 1) (λ gate rest shut is. closed (record { gate = gate; rest = rest; is_closed = shut; bytes_are = is }))), omega (arith, full.1, shape.limit 1))
full_b d e payload (Some Memory) shape closed same full = tt

-- log A is made behind it
pub full_a : (d e : View) (payload : List ℕ) (end : ℕ) (answer : Option DiskErr) → SameShape d e → end ≤ 10 + length payload → FullOnly 0 (d.limit 0) end answer → FullAtFirst e payload answer
full_a d e payload end None shape short full = tt
full_a d e payload end (Some Failed) shape short full = tt
full_a d e payload end (Some Stopped) shape short full = tt
full_a d e payload end (Some (Full n)) shape short full = inr (full.0, omega (arith, full.1, short, shape.limit 0))
full_a d e payload end (Some Memory) shape short full = tt

pub both_made_blank : (logs : Logs) → logs 0 ≡ Some [] → logs 1 ≡ Some [] → coordinator_pair logs ≡ BothBlank
both_made_blank logs a b =
    ap (λ o. pair_of coordinator_generation (content_of coordinator_in o) (content_of coordinator_in (logs 1))) a
    ∙ ap (λ o. pair_of coordinator_generation (content_of coordinator_in (Some [])) (content_of coordinator_in o)) b

-- the pair is blank yet behind a log that was made blank
pub blank_with_b : (d e : View) (log : GateLog) → KeepsOthers 1 d e None → gates.device_of log ≡ 1 → IsLog e log [] → IsTrue d.told → coordinator_pair (logs_of d.bytes) ≡ BothBlank
    → coordinator_pair (logs_of e.bytes) ≡ BothBlank
blank_with_b d e log keeps device is told blank =
    both_made_blank (logs_of e.bytes) (ap entries_in (keeps.kept 0 zero_one).bytes ∙ blank_a d.bytes blank)
    (ap (λ dev. entries_in (e.bytes dev)) (sym device) ∙ log_bytes e log [] (keeps.shape.told ∙ told) is)

pub blank_with_a : (d e : View) (log : GateLog) → KeepsOthers 0 d e None → gates.device_of log ≡ 0 → IsLog e log [] → IsTrue d.told → coordinator_pair (logs_of d.bytes) ≡ BothBlank
    → coordinator_pair (logs_of e.bytes) ≡ BothBlank
blank_with_a d e log keeps device is told blank =
    both_made_blank (logs_of e.bytes) (ap (λ dev. entries_in (e.bytes dev)) (sym device) ∙ log_bytes e log [] (keeps.shape.told ∙ told) is)
    (ap entries_in (keeps.kept 1 one_zero).bytes ∙ blank_b d.bytes blank)

-- and where both devices are as they were
pub blank_stays : (d e : View) → e.bytes 0 ≡ d.bytes 0 → e.bytes 1 ≡ d.bytes 1 → coordinator_pair (logs_of d.bytes) ≡ BothBlank → coordinator_pair (logs_of e.bytes) ≡ BothBlank
blank_stays d e first second blank = pair_same coordinator_generation coordinator_in 0 (logs_of d.bytes) (logs_of e.bytes) (ap entries_in first) (ap entries_in second) ∙ blank

-- A LOG THAT IS OPENED

other_settled : (e : View) (which : WhichLog) → IsSettled e 0 → IsSettled e 1 → IsSettled e (device_of 0 (other_log which))
other_settled e LogA a b = b
other_settled e LogB a b = a

pub opened_so : (d e : View) (which : WhichLog) (r : ReadLog) (x : Decisions) → KeepsAll d e None → 1 < d.count → IsSettled d 0 → IsSettled d 1 → (h : IsCounted e which r) → HoldsLog x h.read.log
    → x.which ≡ which → x.gate ≡ r.gate → IsDecisions e x which h.read.log
opened_so d e which r x keeps known a b h holds own same = record {
  own = own;
  holds = holds;
  counting = record {
    entries = h.read.entries;
    is_log = subst (λ (g : GateLog). IsLog e g h.read.entries) (sym same) h.read.is_log;
    device = ap gates.device_of same ∙ h.read.device;
    known = omega (arith, known, keeps.shape.count);
    other = other_settled e which (settled_kept d e 0 (keeps.kept 0 (λ none. none)) a) (settled_kept d e 1 (keeps.kept 1 (λ none. none)) b);
    counts = h.counts;
  };
}

same_kind : (k : PlaceKind) → is_same_kind k k ≡ true
same_kind Remainder = refl
same_kind Bands = refl

pub same_shape : (s : Shape) → is_same_shape s s ≡ true
same_shape s = ap (λ b. b && is_same_kind s.kind s.kind) ((Decides-eqb s.parts s.parts).1 refl) ∙ same_kind s.kind

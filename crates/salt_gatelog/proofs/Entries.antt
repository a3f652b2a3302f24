-- Where an entry stands on its device, and that a log is one whatever entry was found last.
use Rattle.salt_bytes.specs.Log.{framed, spelled}
use Rattle.salt_disk.proofs.CallAfterCall.{cause_none, keeps_on, same_shape, unless_down}
use Rattle.salt_disk.specs.Disks.{HasCause, IsRead, IsUnchanged, KeepsAll, UnlessDown, View}
use Rattle.salt_disk.specs.declared.disks.DiskErr.TheVariants.{Failed, Full, Memory, Stopped}
use Rattle.salt_disk.specs.declared.disks.DiskErr.{DiskErr}
use Rattle.salt_gatelog.proofs.Bytes.{length-framed, length-spelled-push}
use Rattle.salt_gatelog.proofs.Frame.{log_kept}
use Rattle.salt_gatelog.specs.Block.{IsBlock, IsBlockOf}
use Rattle.salt_gatelog.specs.Entry.{EntryEnds, HasMoved, IsAtFirst}
use Rattle.salt_gatelog.specs.Log.{EndsClosed, IsLog, StandsAt}
use Rattle.salt_gatelog.specs.declared.block.Block.{Block}
use Rattle.salt_gatelog.specs.declared.log.GateLog.{GateLog}
use Rattle.std.proofs.Common.{Bool, IsTrue, List, None, Option, Some, [], ap, append_assoc, arith, drop, false, get_or, inl, inr, length, length-append, length-take, refl, slice_get, subst, suc, sym, take, take-append-drop, true, zero, ℕ, ◌++◌, ◌+◌, ◌<◌, ◌^◌, ◌≡◌, ◌≤◌, ◌∙◌, ◌∷◌, ◌⊎◌}
use Rattle.std.proofs.lemmas.List.{drop-drop, drop_at, drop_more, take_all, take_at, take_more}
use Rattle.std.proofs.lemmas.Nat.{from_be_bytes-to_be_bytes_8}
use Rattle.std.specs.Int.{from_be_bytes, to_be_bytes, w64}

spelled-append : (xs ys : List (List ℕ)) → spelled (xs ++ ys) ≡ spelled xs ++ spelled ys
spelled-append [] ys = refl
spelled-append (p ∷ xs) ys = ap (λ (l : List ℕ). 1 ∷ (framed p ++ l)) (spelled-append xs ys) ∙ ap (λ (l : List ℕ). 1 ∷ l) (sym (append_assoc (framed p) (spelled xs) (spelled ys)))

-- the entry of a number, between those before it and those behind it
abbrev pub entry_of : List (List ℕ) → ℕ → List ℕ
entry_of entries n = get_or entries n []

spelled-cut : (entries : List (List ℕ)) (n : ℕ) → n < length entries → spelled entries ≡ spelled (take n entries) ++ 1 ∷ (framed (entry_of entries n) ++ spelled (drop (n + 1) entries))
spelled-cut entries n below =
    ap spelled (sym (take-append-drop n entries) ∙ ap (λ (l : List (List ℕ)). take n entries ++ l) (drop_more entries n [] below))
    ∙ spelled-append (take n entries) (entry_of entries n ∷ drop (n + 1) entries)

pub entry_stands : (d : View) (log : GateLog) (entries : List (List ℕ)) → IsLog d log entries → log.next < length entries → IsTrue d.told → EntryEnds (entry_of entries log.next) (d.bytes log.dev) log.place log.end
entry_stands d log entries is below told =
    let n = log.next in
    let p = entry_of entries n in
    let ends = is.file told in
    let before = spelled (take n entries) in
    let behind = spelled (drop (n + 1) entries) in
    let cut = spelled-cut entries n below in
    let more = behind ++ ends.gate ∷ ends.rest in
    let whole : d.bytes log.dev ≡ before ++ 1 ∷ (framed p ++ more) =
    ends.bytes_are ∙ ap (λ (l : List ℕ). l ++ ends.gate ∷ ends.rest) cut
    ∙ append_assoc before (1 ∷ (framed p ++ behind)) (ends.gate ∷ ends.rest)
    ∙ ap (λ (l : List ℕ). before ++ 1 ∷ l) (append_assoc (framed p) behind (ends.gate ∷ ends.rest)) in
    record {
      stands = record {
        rest = more;
        bytes_are = ap (λ (l : List ℕ). drop log.place l) whole ∙ drop_at before (1 ∷ (framed p ++ more)) log.place (sym (is.place told));
      };
      ends = omega (arith, is.end, is.place told, ap length cut, length-append before (1 ∷ (framed p ++ behind)), length-append (framed p) behind, length-framed p);
    }

-- the same piece of the same device
same_block : (d : View) (log new : GateLog) → new.dev ≡ log.dev → new.block ≡ log.block → IsBlockOf d log.dev log.block → IsBlockOf d new.dev new.block
same_block d log new device block is = subst (λ (dev : ℕ). IsBlockOf d dev new.block) (sym device) (subst (IsBlockOf d log.dev) (sym block) is)

-- one entry further
pub goes_on : (d : View) (log new : GateLog) (entries : List (List ℕ)) (size : ℕ) → IsLog d log entries → HasMoved log new → new.block ≡ log.block → new.next ≡ log.next + 1 → new.place ≡ log.place + 9 + size
    → log.next < length entries → log.place + 9 + size ≤ log.end → (IsTrue d.told → size ≡ length (entry_of entries log.next)) → IsLog d new entries
goes_on d log new entries size is same block next place below within sized = record {
  known = omega (arith, is.known, same.device);
  end = same.gate ∙ is.end;
  room = omega (arith, is.room, same.gate);
  count = same.count ∙ is.count;
  file = λ told. subst (λ (dev : ℕ). EndsClosed entries (d.bytes dev)) (sym same.device) (is.file told);
  settled = λ c left.
      let left' : d.image log.dev c = subst (λ (dev : ℕ). d.image dev c) same.device left in
      is.settled c left' ∙ ap (λ (dev : ℕ). d.bytes dev) (sym same.device);
  next = omega (arith, next, below, is.count, same.count);
  within = omega (arith, place, within, same.gate);
  place = λ told.
      let longer : take new.next entries ≡ take log.next entries ++ entry_of entries log.next ∷ [] = ap (λ (k : ℕ). take k entries) next ∙ take_more entries log.next [] below in
      omega (arith, place, sized told, is.place told, ap (λ (es : List (List ℕ)). length (spelled es)) longer, length-spelled-push (take log.next entries) (entry_of entries log.next));
  block = same_block d log new same.device block is.block;
}

-- back at the first entry
pub at_first : (d : View) (log new : GateLog) (entries : List (List ℕ)) → IsLog d log entries → IsAtFirst log new → IsLog d new entries
at_first d log new entries is first = record {
  known = omega (arith, is.known, first.same.device);
  end = first.same.gate ∙ is.end;
  room = omega (arith, is.room, first.same.gate);
  count = first.same.count ∙ is.count;
  file = λ told. subst (λ (dev : ℕ). EndsClosed entries (d.bytes dev)) (sym first.same.device) (is.file told);
  settled = λ c left.
      let left' : d.image log.dev c = subst (λ (dev : ℕ). d.image dev c) first.same.device left in
      is.settled c left' ∙ ap (λ (dev : ℕ). d.bytes dev) (sym first.same.device);
  next = omega (arith, first.next);
  within = omega (arith, first.place);
  place = λ told. first.place ∙ ap (λ (k : ℕ). length (spelled (take k entries))) (sym first.next);
  block = same_block d log new first.same.device first.block is.block;
}

-- one entry further, after calls that write nothing
pub step_on : (d e : View) (log new : GateLog) (entries : List (List ℕ)) (size : ℕ) → IsLog d log entries → KeepsAll d e None → HasMoved log new → new.block ≡ log.block → new.next ≡ log.next + 1 → new.place ≡ log.place + 9 + size
    → log.next < length entries → log.place + 9 + size ≤ log.end → (IsTrue d.told → (payload : List ℕ) → EntryEnds payload (d.bytes log.dev) log.place log.end → size ≡ length payload) → IsLog e new entries
step_on d e log new entries size is keeps same block next place below within sized =
    goes_on e log new entries size (log_kept d e log entries keeps.shape (keeps.kept log.dev (λ none. none)) is) same block next place below within
    (λ told. sized (sym keeps.shape.told ∙ told) (entry_of entries log.next) (entry_stands d log entries is below (sym keeps.shape.told ∙ told)))

keeps_same : (d : View) → KeepsAll d d None
keeps_same d = record { shape = same_shape d; kept = λ dev other. record { bytes = refl; images = λ c left. left }; images = λ dev other c left. left }

-- How far a search has come.
pub record Found (d0 d : View) (log now : GateLog) (i : ℕ) (block : Block) : Type 0 where
  pub is_log : (entries : List (List ℕ)) → IsLog d0 log entries → IsLog d now entries
  pub same : HasMoved log now
  pub before : now.next ≤ i
  pub piece : IsBlock d now.dev block
  pub keeps : KeepsAll d0 d None
  pub cause : HasCause d0 d None

pub found_first : (d : View) (log now : GateLog) (i : ℕ) (block : Block) → now.next ≤ i → (now ≡ log) ⊎ IsAtFirst log now → IsBlock d log.dev block → Found d d log now i block
found_first d log now i block before (inl same) piece = record {
  is_log = λ entries is. subst (λ (l : GateLog). IsLog d l entries) (sym same) is;
  same = record { device = ap (λ (l : GateLog). l.dev) same; gate = ap (λ (l : GateLog). l.end) same; count = ap (λ (l : GateLog). l.count) same };
  before = before;
  piece = subst (λ (l : GateLog). IsBlock d l.dev block) (sym same) piece;
  keeps = keeps_same d;
  cause = cause_none d;
}
found_first d log now i block before (inr first) piece = record {
  is_log = λ entries is. at_first d log now entries is first;
  same = first.same;
  before = before;
  piece = subst (λ (dev : ℕ). IsBlock d dev block) (sym first.same.device) piece;
  keeps = keeps_same d;
  cause = cause_none d;
}

-- A PIECE TAKEN OUT, AND PUT BACK

pub without_block : (d : View) (log new : GateLog) (entries : List (List ℕ)) → new ≡ record log { block = None } → IsLog d log entries → IsLog d new entries
without_block d log new entries is h = subst (λ (l : GateLog). IsLog d l entries) (sym is) (record {
  known = h.known;
  end = h.end;
  room = h.room;
  count = h.count;
  file = h.file;
  settled = h.settled;
  next = h.next;
  within = h.within;
  place = h.place;
  block = tt;
})

pub without_moved : (log new : GateLog) → new ≡ record log { block = None } → HasMoved log new
without_moved log new is = record { device = ap (λ (l : GateLog). l.dev) is; gate = ap (λ (l : GateLog). l.end) is; count = ap (λ (l : GateLog). l.count) is }

pub moved_on : (log more new : GateLog) → HasMoved log more → HasMoved more new → HasMoved log new
moved_on log more new p q = record { device = q.device ∙ p.device; gate = q.gate ∙ p.gate; count = q.count ∙ p.count }

pub with_block : (d : View) (log : GateLog) (block : Block) (entries : List (List ℕ)) → IsBlock d log.dev block → IsLog d log entries → IsLog d (record log { block = Some block }) entries
with_block d log block entries piece h = record {
  known = h.known;
  end = h.end;
  room = h.room;
  count = h.count;
  file = h.file;
  settled = h.settled;
  next = h.next;
  within = h.within;
  place = h.place;
  block = piece;
}

-- WHAT IS READ

pub not_told : (b : Bool) → (b ≡ true → ⊥) → b ≡ false
not_told true never = absurd (never refl)
not_told false never = refl

same_number : (a b : ℕ) → a < 2 ^ 64 → b < 2 ^ 64 → to_be_bytes w64 a ≡ to_be_bytes w64 b → a ≡ b
same_number a b small small' is = sym (from_be_bytes-to_be_bytes_8 a small) ∙ ap (λ (l : List ℕ). from_be_bytes w64 l) is ∙ from_be_bytes-to_be_bytes_8 b small'

-- the length and the payload behind a gate
behind_gate : (payload bytes : List ℕ) (at : ℕ) (here : StandsAt payload bytes at) → drop (at + 1) bytes ≡ to_be_bytes w64 (length payload) ++ (payload ++ here.rest)
unfolding framed
behind_gate payload bytes at here =
    sym (drop-drop 1 at bytes) ∙ ap (λ (l : List ℕ). drop 1 l) here.bytes_are ∙ append_assoc (to_be_bytes w64 (length payload)) payload here.rest

-- the payload behind its length
behind_size : (payload bytes : List ℕ) (at : ℕ) (here : StandsAt payload bytes at) → drop (at + 9) bytes ≡ payload ++ here.rest
unfolding framed
behind_size payload bytes at here =
    sym (drop-drop 9 at bytes)
    ∙ ap (λ (l : List ℕ). drop 9 l) (here.bytes_are ∙ ap (λ (l : List ℕ). 1 ∷ l) (append_assoc (to_be_bytes w64 (length payload)) payload here.rest))
    ∙ drop_at (1 ∷ to_be_bytes w64 (length payload)) (payload ++ here.rest) 9 refl

pub read_size : (payload bytes before after : List ℕ) (at end count size : ℕ) → EntryEnds payload bytes at end → end < 2 ^ 64 → size < 2 ^ 64 → length before ≡ 8
    → IsRead bytes (at + 1) before after count → to_be_bytes w64 size ≡ after → (8 ≤ count) × (size ≡ length payload)
read_size payload bytes before after at end count size here small fits eight read spells =
    let number = to_be_bytes w64 (length payload) in
    let more = payload ++ here.stands.rest in
    let behind : drop (at + 1) bytes ≡ number ++ more = behind_gate payload bytes at here.stands in
    let long : length number ≡ 8 = refl in
    let long' : length after ≡ 8 = ap length (sym spells) in
    let whole : count ≡ 8 = omega (arith, eight, read.count, length-take (length before) (drop (at + 1) bytes), ap length behind, length-append number more, long) in
    let same : after ≡ number = sym (take_all count after (omega (arith, whole, long'))) ∙ read.bytes ∙ ap (λ (k : ℕ). take k (drop (at + 1) bytes)) eight ∙ ap (λ (l : List ℕ). take 8 l) behind ∙ take_at number more 8 refl in
    (omega (arith, whole), same_number size (length payload) fits (omega (arith, here.ends, small)) (spells ∙ same))

pub read_all : (bytes before after : List ℕ) (at count size : ℕ) → length before ≡ size → size ≤ length (drop at bytes) → IsRead bytes at before after count → count ≡ size
read_all bytes before after at count size room there read = omega (arith, room, there, read.count, length-take (length before) (drop at bytes))

pub read_bytes : (bytes before after : List ℕ) (at count size : ℕ) → length before ≡ size → length after ≡ size → size ≤ count → IsRead bytes at before after count → after ≡ take size (drop at bytes)
read_bytes bytes before after at count size room room' many read =
    sym (take_all count after (omega (arith, room', many))) ∙ read.bytes ∙ ap (λ (k : ℕ). take k (drop at bytes)) room

pub payload_there : (payload bytes : List ℕ) (at end size : ℕ) → EntryEnds payload bytes at end → size ≡ length payload → size ≤ length (drop (at + 9) bytes)
payload_there payload bytes at end size here is = omega (arith, is, ap length (behind_size payload bytes at here.stands), length-append payload here.stands.rest)

payload_is : (payload bytes : List ℕ) (at end size : ℕ) → EntryEnds payload bytes at end → size ≡ length payload → take size (drop (at + 9) bytes) ≡ payload
payload_is payload bytes at end size here is = ap (λ (l : List ℕ). take size l) (behind_size payload bytes at here.stands) ∙ take_at payload here.stands.rest size (sym is)

entry_got : (entries : List (List ℕ)) (i : ℕ) → i < length entries → Some (entry_of entries i) ≡ slice_get entries i
entry_got [] i below = absurd (omega (arith, below))
entry_got (p ∷ entries) zero below = refl
entry_got (p ∷ entries) (suc i) below = entry_got entries i (omega (arith, below))

pub got : (d e : View) (log : GateLog) (entries : List (List ℕ)) (payload : List ℕ) (i size : ℕ) → IsLog d log entries → KeepsAll d e None → log.next ≡ i → i < length entries → IsTrue d.told
    → ((p : List ℕ) → EntryEnds p (d.bytes log.dev) log.place log.end → size ≡ length p) → payload ≡ take size (drop (log.place + 9) (e.bytes log.dev)) → Some payload ≡ slice_get entries i
got d e log entries payload i size is keeps found below told sized read =
    let here = entry_stands d log entries is (omega (arith, found, below)) told in
    let p : payload ≡ entry_of entries i =
    read ∙ ap (λ (b : List ℕ). take size (drop (log.place + 9) b)) (keeps.kept log.dev (λ none. none)).bytes
    ∙ payload_is (entry_of entries log.next) (d.bytes log.dev) log.place log.end size here (sized (entry_of entries log.next) here)
    ∙ ap (λ (k : ℕ). entry_of entries k) found in
    ap (λ (l : List ℕ). Some l) p ∙ entry_got entries i below

-- WHAT AN ANSWER LEAVES

pub whatever : (answer : Option DiskErr) (P : Type 0) → P → UnlessDown answer P
whatever None P h = h
whatever (Some Failed) P h = tt
whatever (Some Stopped) P h = tt
whatever (Some (Full dev)) P h = h
whatever (Some Memory) P h = h

pub keeps_without_memory : (d e : View) → KeepsAll d e None → KeepsAll d e (Some Memory)
keeps_without_memory d e keeps = record { shape = keeps.shape; kept = keeps.kept; images = keeps.images }

-- a log stays one over a call that writes nothing
pub stays_log : (d e : View) (log : GateLog) (entries : List (List ℕ)) (answer : Option DiskErr) → KeepsAll d e answer → IsLog d log entries → UnlessDown answer (IsLog e log entries)
stays_log d e log entries answer keeps is =
    unless_down answer ((dev : ℕ) → ¬ ⊥ → IsUnchanged d e dev) (IsLog e log entries) (λ h. log_kept d e log entries keeps.shape (h log.dev (λ none. none)) is) keeps.kept

pub keeps_then : (a b c : View) (answer : Option DiskErr) → KeepsAll a b None → KeepsAll b c answer → KeepsAll a c answer
keeps_then a b c answer p q = keeps_on (λ x. ⊥) a b c answer p q

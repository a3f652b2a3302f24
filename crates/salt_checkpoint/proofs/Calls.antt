-- What is known of the devices behind each call of a checkpoint, and what that stands for.
use Rattle.salt_checkpoint.proofs.Named.{all_named}
use Rattle.salt_checkpoint.proofs.Standing.{before_stands, before_stood, behind_stands, behind_stood, log_is_no_page, no_page}
use Rattle.salt_checkpoint.proofs.Torn.{keeps_all, keeps_more, named_back, named_on, named_refl}
use Rattle.salt_checkpoint.specs.Checkpoints.{IsBefore, IsBehind, IsNext, IsReady, NamedSettled, OthersLeft, StandsAlways}
use Rattle.salt_checkpoint.specs.Sides.{LeaveNoGap, KeepsNamed, NamedSame, SpareNamed, all_written}
use Rattle.salt_checkpoint.specs.declared.writes.Write.{Write}
use Rattle.salt_bytes.specs.Generations.{LogA, LogB, WhichLog}
use Rattle.salt_bytes.specs.Log.{entries_in}
use Rattle.salt_disk.proofs.CallAfterCall.{shape_goes_on}
use Rattle.salt_disk.specs.Disks.{EachImage, IsSettled, KeepsOthers, SameShape, Shrinks, View}
use Rattle.salt_disk.specs.declared.disks.DiskErr.{DiskErr}
use Rattle.salt_gatelog.proofs.Bytes.{entries_in-closed}
use Rattle.salt_gatelog.specs.Log.{IsBeforeOrWith, IsLog}
use Rattle.salt_gatelog.specs.declared.log.GateLog.{GateLog}
use Rattle.salt_stands.specs.Commits.{found_of, partition_count, with_view}
use Rattle.salt_stands.specs.Coordinator.{Coordinator, device_of}
use Rattle.salt_stands.specs.Partition.{pages_device, part_device}
use Rattle.salt_stands.specs.Pieces.{PartView, checkpointed, next_part_header, other_log}
use Rattle.salt_stands.specs.Reading.{Reading}
use Rattle.salt_stands.specs.Stands.{stands_on}
use Rattle.salt_values.specs.declared.change.Change.{Change}
use Rattle.std.proofs.Common.{Bool, IsTrue, List, None, Ok, Option, Some, [], ap, arith, false, inl, inr, length, refl, subst, sym, true, ℕ, ◌+◌, ◌<◌, ◌≡◌, ◌≢◌, ◌⊎◌, ◌∙◌, ◌∷◌}
use Rattle.std.proofs.lemmas.Bool.{cases_eq}
use Rattle.std.proofs.lemmas.Bool.Decides.{Decides-eqb}
use Rattle.std.specs.Prelude.{if◌then◌else◌, ◌==◌}

-- while pages are written and made stable
pub record IsWriting (d e : View) (pages : ℕ) (ws : List Write) : Type 0 where
  pub shape : SameShape d e
  pub others : (dev : ℕ) → dev ≢ pages → Shrinks d e dev
  pub named : (sides : List ℕ) → SpareNamed sides ws → KeepsNamed sides d e pages

-- behind that, while the other log is made blank and begun
pub record IsBeginning (d e : View) (pages other : ℕ) (ws : List Write) (header : List ℕ) : Type 0 where
  pub shape : SameShape d e
  pub others : (dev : ℕ) → dev ≢ pages → dev ≢ other → Shrinks d e dev
  pub written : IsTrue d.told → (c : List ℕ) → e.image pages c → c ≡ all_written ws (d.bytes pages)
  pub log : IsTrue d.told → (c : List ℕ) → e.image other c → ((entries_in c ≡ Some []) ⊎ (c ≡ d.bytes other)) ⊎ (entries_in c ≡ Some (header ∷ []))

-- THE CALLS

pub writing : (d e : View) (answer : Option DiskErr) (pages : ℕ) (ws : List Write) → KeepsOthers pages d e answer → ((sides : List ℕ) → SpareNamed sides ws → KeepsNamed sides d e pages) → IsWriting d e pages ws
writing d e answer pages ws others named = record { shape = others.shape; others = others.images; named = named }

pub syncing : (d e f : View) (answer : Option DiskErr) (pages : ℕ) (ws : List Write) → IsWriting d e pages ws → KeepsOthers pages e f answer → Shrinks e f pages → IsWriting d f pages ws
syncing d e f answer pages ws is others shrinks = record {
  shape = shape_goes_on d e f is.shape others.shape;
  others = λ dev apart c left. is.others dev apart c (others.images dev apart c left);
  named = λ sides spare. keeps_more sides d e f pages (is.named sides spare) (keeps_all sides e f pages shrinks);
}

-- the pages are settled, and all writes are there
pub record IsSynced (d e : View) (pages : ℕ) (ws : List Write) : Type 0 where
  pub is : IsWriting d e pages ws
  pub settled : IsSettled e pages
  pub bytes : IsTrue d.told → e.bytes pages ≡ all_written ws (d.bytes pages)
  -- the devices that are not touched
  pub kept : (dev : ℕ) → dev ≢ pages → e.bytes dev ≡ d.bytes dev

pub syncs : (d e f : View) (pages : ℕ) (ws : List Write) → KeepsOthers pages d e None → ((sides : List ℕ) → SpareNamed sides ws → KeepsNamed sides d e pages) → (IsTrue d.told → e.bytes pages ≡ all_written ws (d.bytes pages))
    → KeepsOthers pages e f None → Shrinks e f pages → IsSettled f pages → f.bytes pages ≡ e.bytes pages → IsSynced d f pages ws
syncs d e f pages ws first named wrote second shrinks settled same = record {
  is = syncing d e f None pages ws (writing d e None pages ws first named) second shrinks;
  settled = settled;
  bytes = λ told. same ∙ wrote told;
  kept = λ dev apart. (second.kept dev apart).bytes ∙ (first.kept dev apart).bytes;
}

pub other_no_page : (p other : ℕ) → (other ≡ part_device p) ⊎ (other ≡ part_device p + 1) → other ≢ pages_device p
other_no_page p other (inl e) s = log_is_no_page p p 0 (omega arith) (omega (arith, e, s))
other_no_page p other (inr e) s = log_is_no_page p p 1 (omega arith) (omega (arith, e, s))

pub log_bytes : (d : View) (log : GateLog) (entries : List (List ℕ)) → IsTrue d.told → IsLog d log entries → entries_in (d.bytes log.dev) ≡ Some entries
log_bytes d log entries told is = entries_in-closed entries (d.bytes log.dev) (omega (arith, is.end, is.room)) (is.file told)

pub creating : (d e f : View) (answer : Option DiskErr) (pages other : ℕ) (ws : List Write) (header : List ℕ) → other ≢ pages → IsSynced d e pages ws → KeepsOthers other e f answer
    → EachImage f other (λ c. (entries_in c ≡ Some []) ⊎ (c ≡ e.bytes other)) → IsBeginning d f pages other ws header
creating d e f answer pages other ws header apart is others log = record {
  shape = shape_goes_on d e f is.is.shape others.shape;
  others = λ dev no_pages no_other c left. is.is.others dev no_pages c (others.images dev no_other c left);
  written = λ told c left. is.settled c (others.images pages (λ e. apart (sym e)) c left) ∙ is.bytes told;
  log = λ told c left. by c (log (others.shape.told ∙ is.is.shape.told ∙ told) c left);
}
  where
    by : (c : List ℕ) → (entries_in c ≡ Some []) ⊎ (c ≡ e.bytes other) → ((entries_in c ≡ Some []) ⊎ (c ≡ d.bytes other)) ⊎ (entries_in c ≡ Some (header ∷ []))
    by c (inl blank) = inl (inl blank)
    by c (inr same) = inl (inr (same ∙ is.kept other apart))

pub beginning : (d e f : View) (answer : Option DiskErr) (pages other : ℕ) (ws : List Write) (header : List ℕ) → other ≢ pages → IsBeginning d e pages other ws header → KeepsOthers other e f answer
    → EachImage f other (IsBeforeOrWith [] header) → IsBeginning d f pages other ws header
beginning d e f answer pages other ws header apart is others log = record {
  shape = shape_goes_on d e f is.shape others.shape;
  others = λ dev no_pages no_other c left. is.others dev no_pages no_other c (others.images dev no_other c left);
  written = λ told c left. is.written told c (others.images pages (λ e. apart (sym e)) c left);
  log = λ told c left. by c (log (others.shape.told ∙ is.shape.told ∙ told) c left);
}
  where
    by : (c : List ℕ) → IsBeforeOrWith [] header c → ((entries_in c ≡ Some []) ⊎ (c ≡ d.bytes other)) ⊎ (entries_in c ≡ Some (header ∷ []))
    by c (inl blank) = inl (inl blank)
    by c (inr begun) = inr begun

-- WHAT THEY STAND FOR

view_elsewhere : (p q : ℕ) (x : PartView) (v : ℕ → PartView) → q ≢ p → with_view p x v q ≡ v q
view_elsewhere p q x v apart = by (q == p) refl
  where
    by : (b : Bool) → (q == p) ≡ b → (if b then x else v q) ≡ v q
    by true same = absurd (apart ((Decides-eqb q p).0 same))
    by false same = refl

module _ {D : Type 0} (r : Reading D) (d : View) (which : WhichLog) (c : Coordinator D) (v : ℕ → PartView) (ready : IsReady r d which c v)
    (p : ℕ) (below : p < partition_count c) (other : ℕ) (is_other : other ≡ device_of (part_device p) (other_log (v p).which)) (settled : IsSettled d other)
    (ws : List Write) (spare : SpareNamed (v p).log.header.sides ws) where
  pub other_known : other < d.count
  other_known = by (other_log (v p).which) is_other
    where
      by : (w : WhichLog) → other ≡ device_of (part_device p) w → other < d.count
      by LogA e = omega (arith, e, ready.known p below)
      by LogB e = omega (arith, e, ready.known p below)

  pub no_pages : other ≢ pages_device p
  no_pages e = no_page (other_log (v p).which) p p (sym is_other ∙ e)

  pub writing_stands : (e : View) → IsWriting d e (pages_device p) ws → StandsAlways r e c v
  writing_stands e is asked image left = before_stands r d which c v ready p below other is_other image before asked
    where
      at : (dev : ℕ) → dev < d.count → e.image dev (image dev)
      at dev low = left dev (omega (arith, low, is.shape.count))

      kept : (b : List ℕ) × d.image (pages_device p) b × NamedSame (v p).log.header.sides b (image (pages_device p))
      kept = is.named (v p).log.header.sides spare (image (pages_device p)) (at (pages_device p) (ready.known p below))

      before : IsBefore d p other (v p).log.header.sides image
      before = record {
        others = record { each = λ dev low apart no_other. inl (is.others dev apart (image dev) (at dev low)) };
        log = inr (settled (image other) (is.others other no_pages (image other) (at other other_known)));
        pages = named_on (v p).log.header.sides (d.bytes (pages_device p)) kept.0 (image (pages_device p)) (ready.pages p below kept.0 kept.1) kept.2;
      }

  -- behind Ok of the writes alone: they stand as before, with writes pending on other sides
  module _ (place : LeaveNoGap (length (d.bytes (pages_device p))) ws) (e : View) (is : IsWriting d e (pages_device p) ws) (pages : e.bytes (pages_device p) ≡ all_written ws (d.bytes (pages_device p)))
      (kept : (dev : ℕ) → dev ≢ pages_device p → e.bytes dev ≡ d.bytes dev) where
    own_named : NamedSame (v p).log.header.sides (d.bytes (pages_device p)) (e.bytes (pages_device p))
    own_named = subst (λ b. NamedSame (v p).log.header.sides (d.bytes (pages_device p)) b) (sym pages) (all_named (v p).log.header.sides ws (d.bytes (pages_device p)) place spare)

    as_written : IsBefore d p other (v p).log.header.sides e.bytes
    as_written = record { others = record { each = λ dev low apart no_other. inr (kept dev apart) }; log = inr (kept other no_pages); pages = own_named }

    settled_still : (dev : ℕ) → dev ≢ pages_device p → IsSettled d dev → IsSettled e dev
    settled_still dev apart was b left = was b (is.others dev apart b left) ∙ sym (kept dev apart)

    pages_still : (q : ℕ) → q < partition_count c → NamedSettled (v q).log.header.sides e (pages_device q)
    pages_still q low = by (cases_eq q p)
      where
        own : NamedSettled (v p).log.header.sides e (pages_device p)
        own b left =
            let from = is.named (v p).log.header.sides spare b left in
            let was : NamedSame (v p).log.header.sides (d.bytes (pages_device p)) from.0 = ready.pages p below from.0 from.1 in
            named_on (v p).log.header.sides (e.bytes (pages_device p)) (d.bytes (pages_device p)) b (named_back (v p).log.header.sides (d.bytes (pages_device p)) (e.bytes (pages_device p)) own_named)
            (named_on (v p).log.header.sides (d.bytes (pages_device p)) from.0 b was from.2)

        by : (q ≡ p) ⊎ (q ≢ p) → NamedSettled (v q).log.header.sides e (pages_device q)
        by (inl same) = subst (λ k. NamedSettled (v k).log.header.sides e (pages_device k)) (sym same) own
        by (inr apart) = λ b left.
            let far : pages_device q ≢ pages_device p = λ s. apart (omega (arith, s)) in
            let was : NamedSame (v q).log.header.sides (d.bytes (pages_device q)) b = ready.pages q low b (is.others (pages_device q) far b left) in
            subst (λ k. NamedSame (v q).log.header.sides k b) (sym (kept (pages_device q) far)) was

    pub written_ready : IsReady r e which c v
    written_ready = record {
      stood = before_stood r d which c v ready p below other is_other e.bytes as_written;
      two = omega (arith, ready.two, is.shape.count);
      known = λ q low. omega (arith, ready.known q low, is.shape.count);
      first = settled_still 0 (omega arith) ready.first;
      second = settled_still 1 (omega arith) ready.second;
      log_a = λ q low. settled_still (part_device q) (λ s. log_is_no_page q p 0 (omega arith) (omega (arith, s))) (ready.log_a q low);
      log_b = λ q low. settled_still (part_device q + 1) (log_is_no_page q p 1 (omega arith)) (ready.log_b q low);
      pages = pages_still;
    }

module _ {D : Type 0} (r : Reading D) (d : View) (which : WhichLog) (c : Coordinator D) (v : ℕ → PartView) (ready : IsReady r d which c v) (told : IsTrue d.told)
    (p : ℕ) (below : p < partition_count c) (other : ℕ) (is_other : other ≡ device_of (part_device p) (other_log (v p).which)) (settled : IsSettled d other)
    (ws : List Write) (header : List ℕ) (format : ℕ) (sides : List ℕ) (rows : List Change) (next : IsNext r c p (v p) (d.bytes (pages_device p)) ws header format sides rows) where
  known : other < d.count
  known = other_known r d which c v ready p below other is_other settled ws next.spare

  elsewhere : other ≢ pages_device p
  elsewhere = no_pages r d which c v ready p below other is_other settled ws next.spare

  module _ (place : LeaveNoGap (length (d.bytes (pages_device p))) ws) (e : View) (is : IsBeginning d e (pages_device p) other ws header) where
    pub beginning_stands : StandsAlways r e c v
    beginning_stands asked image left = by (is.log told (image other) (at other known))
      where
        at : (dev : ℕ) → dev < d.count → e.image dev (image dev)
        at dev low = left dev (omega (arith, low, is.shape.count))

        others : OthersLeft d p other image
        others = record { each = λ dev low apart no_other. inl (is.others dev apart no_other (image dev) (at dev low)) }

        all : image (pages_device p) ≡ all_written ws (d.bytes (pages_device p))
        all = is.written told (image (pages_device p)) (at (pages_device p) (ready.known p below))

        by : ((entries_in (image other) ≡ Some []) ⊎ (image other ≡ d.bytes other)) ⊎ (entries_in (image other) ≡ Some (header ∷ [])) → stands_on r image asked ≡ Ok (found_of c v)
        by (inl before) = before_stands r d which c v ready p below other is_other image (record {
          others = others;
          log = before;
          pages = subst (λ bytes. NamedSame (v p).log.header.sides (d.bytes (pages_device p)) bytes) (sym all) (all_named (v p).log.header.sides ws (d.bytes (pages_device p)) place next.spare);
        }) asked
        by (inr begun) = behind_stands r d which c v ready p below other is_other image ws header format sides rows next (record { others = others; log = begun; pages = all }) asked

    -- behind Ok it stands in the other log
    module _ (settled_other : IsSettled e other) (begun : entries_in (e.bytes other) ≡ Some (header ∷ [])) (pages : e.bytes (pages_device p) ≡ all_written ws (d.bytes (pages_device p)))
        (kept : (dev : ℕ) → dev ≢ pages_device p → dev ≢ other → e.bytes dev ≡ d.bytes dev) where
      abbrev now : PartView
      now = checkpointed (v p) (next_part_header (v p) format sides) rows

      as_read : IsBehind d p other ws header e.bytes
      as_read = record { others = record { each = λ dev low apart no_other. inr (kept dev apart no_other) }; log = begun; pages = pages }

      -- what was settled, and is not touched or is settled again
      still : (dev : ℕ) → dev ≢ pages_device p → IsSettled d dev → IsSettled e dev
      still dev apart was = elim (cases_eq dev other) [
        | inl same ↦ subst (λ k. IsSettled e k) (sym same) settled_other
        | inr no_other ↦ λ b left. was b (is.others dev apart no_other b left) ∙ sym (kept dev apart no_other)
      ]

      pages_now : (q : ℕ) → q < partition_count c → NamedSettled (with_view p now v q).log.header.sides e (pages_device q)
      pages_now q low = by (cases_eq q p)
        where
          by : (q ≡ p) ⊎ (q ≢ p) → NamedSettled (with_view p now v q).log.header.sides e (pages_device q)
          by (inl same) = λ b left.
              let at : b ≡ e.bytes (pages_device p) = is.written told b (subst (λ k. e.image (pages_device k) b) same left) ∙ sym pages in
              let all : b ≡ e.bytes (pages_device q) = at ∙ ap (λ k. e.bytes (pages_device k)) (sym same) in
              subst (λ k. NamedSame (with_view p now v q).log.header.sides (e.bytes (pages_device q)) k) (sym all) (named_refl (with_view p now v q).log.header.sides (e.bytes (pages_device q)))
          by (inr apart) = λ b left.
              let far : pages_device q ≢ pages_device p = λ s. apart (omega (arith, s)) in
              let away : pages_device q ≢ other = λ s. no_page (other_log (v p).which) p q (sym is_other ∙ sym s) in
              let was : NamedSame (v q).log.header.sides (d.bytes (pages_device q)) b = ready.pages q low b (is.others (pages_device q) far away b left) in
              let same : NamedSame (v q).log.header.sides (e.bytes (pages_device q)) b = subst (λ k. NamedSame (v q).log.header.sides k b) (sym (kept (pages_device q) far away)) was in
              subst (λ x. NamedSame x.log.header.sides (e.bytes (pages_device q)) b) (sym (view_elsewhere p q now v apart)) same

      pub after_ready : IsReady r e which c (with_view p now v)
      after_ready = record {
        stood = behind_stood r d which c v ready p below other is_other e.bytes ws header format sides rows next as_read;
        two = omega (arith, ready.two, is.shape.count);
        known = λ q low. omega (arith, ready.known q low, is.shape.count);
        first = still 0 (omega arith) ready.first;
        second = still 1 (omega arith) ready.second;
        log_a = λ q low. still (part_device q) (λ s. log_is_no_page q p 0 (omega arith) (omega (arith, s))) (ready.log_a q low);
        log_b = λ q low. still (part_device q + 1) (log_is_no_page q p 1 (omega arith)) (ready.log_b q low);
        pages = pages_now;
      }

pub other_settled : {D : Type 0} (r : Reading D) (d : View) (which : WhichLog) (c : Coordinator D) (v : ℕ → PartView) → IsReady r d which c v → (p : ℕ) → p < partition_count c → IsSettled d (device_of (part_device p) (other_log (v p).which))
other_settled r d which c v ready p below = by (other_log (v p).which)
  where
    by : (w : WhichLog) → IsSettled d (device_of (part_device p) w)
    by LogA = ready.log_a p below
    by LogB = ready.log_b p below

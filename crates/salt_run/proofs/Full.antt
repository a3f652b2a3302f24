-- Where a device is full: what is written next, told by the trace.
use Rattle.salt_bytes.specs.Conts.{spell_move}
use Rattle.salt_bytes.specs.Coordinator.{spell_header}
use Rattle.salt_bytes.specs.Partition.{spell_partition_header}
use Rattle.salt_commit.proofs.Shared.{mask_bit, share_is}
use Rattle.salt_commit.specs.Openings.{PartPassesLimit, StorePassesLimit}
use Rattle.salt_commit.specs.Shares.{mask_of, shares_of}
use Rattle.salt_decisions.specs.Opened.{FullAtFirst, first_payload}
use Rattle.salt_commit.specs.Full.{next_unit}
use Rattle.salt_devices.specs.Filling.{FillsDevice}
use Rattle.salt_disk.specs.Disks.{View}
use Rattle.salt_disk.specs.declared.disks.DiskErr.TheVariants.{Full}
use Rattle.law_states.proofs.KeptAfter.{kept-says, open-listed}
use Rattle.law_states.specs.OpenUnits.{UnitState, unit_named}
use Rattle.law_states.specs.Points.{KeepsPoint, Point}
use Rattle.law_story.proofs.Coming.{Good}
use Rattle.law_story.proofs.Due.{nothing-fallen}
use Rattle.law_story.proofs.Every.{IfSome}
use Rattle.law_story.proofs.Replays.{Ground, replays}
use Rattle.salt_model.specs.Kept.{Kept}
use Rattle.salt_model.specs.Next.{next}
use Rattle.salt_model.specs.Phases.{Fallen, Phase, phase}
use Rattle.salt_model.specs.Played.{IsPlayed}
use Rattle.salt_model.specs.Trace.{Trace}
use Rattle.salt_model.specs.Words.{is_empty}
use Rattle.salt_model.specs.declared.events.Cause.{Cause}
use Rattle.salt_model.specs.declared.events.End.TheVariants.{Branched, Committed}
use Rattle.salt_model.specs.declared.events.End.{End}
use Rattle.salt_model.specs.declared.events.Event.TheVariants.{Defined, Ended}
use Rattle.salt_model.specs.declared.events.Event.{Event}
use Rattle.salt_promise.specs.Filling.{DecisionFills, FirstFills, IsOfPages, NewPairFills, NextFills, RenewalFills, ShareFills, ShareRoomFills}
use Rattle.salt_promise.specs.Filling as promise
use Rattle.salt_run.specs.Ending.{IsFullBehind}
use Rattle.salt_loop.specs.Ending.{MayBeWritten}
use Rattle.salt_stands.specs.FirstOpening.{IsCreated, first_header, first_part_header}
use Rattle.salt_stands.specs.OpenConts.{make_move}
use Rattle.salt_stands.specs.Partition.{part_device}
use Rattle.salt_stands.specs.Placed.{changes_at}
use Rattle.salt_stands.specs.Turning.{changes_of, change_at}
use Rattle.salt_stands.specs.Words.{has_bit}
use Rattle.salt_shares.specs.Shares.{has_changes}
use Rattle.salt_driver.specs.Writing.{IsUnitWritten, IsWrittenBy, changes_decided}
use Rattle.salt_storage.specs.Writing.{OfBoot, OfOpening, OfUnit, ToWrite}
use Rattle.salt_values.specs.declared.change.Change.{Change}
use Rattle.salt_values.specs.declared.id.Id.{Id}
use Rattle.salt_place.specs.declared.placement.Shape.{Shape}
use Rattle.std.proofs.Common.{ap, inl, inr, subst, sym, ◌∙◌}
use Rattle.std.specs.Prelude.{List, None, Option, Some, [], false, length, map, not, refl, true, ℕ, ◌+◌, ◌<◌, ◌∷◌, ◌≡◌, ◌⊎◌}

-- WHICH SHARES have changes

has-not-empty : (cs : List Change) → has_changes cs ≡ not (is_empty cs)
has-not-empty [] = refl
has-not-empty (c ∷ cs) = refl

bits-of : (shape : Shape) (cs : List Change) (p : ℕ) → p < shape.parts → has_bit (mask_of (shares_of shape cs)) p ≡ not (is_empty (changes_at shape p cs))
bits-of shape cs p low = mask_bit (shares_of shape cs) p ∙ ap has_changes (share_is shape cs p low) ∙ has-not-empty (changes_at shape p cs)

-- WHAT WOULD PASS A LIMIT

module _ (d : View) (shape : Shape) (dev : ℕ) where
  -- nothing of a unit without changes is prepared
  no-share : (u : Id) → ShareFills d shape u [] dev → ⊥
  no-share u f = let changed : true ≡ false = f.changed in cc changed

  no-share-room : ShareRoomFills d shape [] dev → ⊥
  no-share-room f = let changed : true ≡ false = f.2 in cc changed

  -- a first opening
  pub first-fills : StorePassesLimit d shape dev → FirstFills d shape dev
  first-fills f = record { blank = f.blank; fills = elim f.passes [ inl c ↦ inr (own c) | inr p ↦ inl (p.p, p.low, part p) ] }
    where
      own : FullAtFirst d (first_payload shape) (Some (Full dev)) → NewPairFills d 0 (spell_header (first_header shape 3)) dev
      own (inl b) = inl (b.0, subst (λ (n : ℕ). IsCreated (d.bytes n)) (sym b.0) b.1, subst (λ (n : ℕ). d.limit n < 1) (sym b.0) b.2)
      own (inr a) = inr (a.0, subst (λ (n : ℕ). d.limit n < 10 + length (first_payload shape)) (sym a.0) a.1)

      part : (p : PartPassesLimit d shape.parts dev) → NewPairFills d (part_device p.p) (spell_partition_header (first_part_header 2 p.p)) dev
      part p = elim p.passes [ inl a ↦ inr a | inr b ↦ inl b ]

  -- or one behind a fall
  pub opening-fills : (trace : Trace) (e : Option Event) → FillsDevice d shape OfOpening dev → NextFills d shape trace Fallen e dev
  opening-fills trace e (inl f) = inl (first-fills f)
  opening-fills trace e (inr (inl h)) = inr (inr (inl (record { p = h.p; low = h.low; device = h.is })))
  opening-fills trace e (inr (inr older)) = inr (inr (inr (inr older)))

  boot-fills : (trace : Trace) (e : Option Event) → FillsDevice d shape OfBoot dev → NextFills d shape trace Fallen e dev
  boot-fills trace e (inl entry) = inr (inl entry)
  boot-fills trace e (inr room) = inr (inr (inr (inl room)))

  -- WHAT COMES NEXT

  module _ (trace : Trace) (played : IsPlayed trace) (p : Point) (keeps : KeepsPoint p trace) where
    abbrev s : UnitState
    s = p.state.units

    ground : Ground trace
    ground = (replays trace played).base

    -- what a commit decides is what its statements changed
    committed : (u : Id) (n : ℕ) → Good trace (Ended u (Committed n)) → changes_decided (Committed n) (unit_named u s.units) ≡ changes_of u trace
    committed u n good =
        let r = open-listed s trace u ground keeps.state.units good.0 in
        ap (changes_decided (Committed n)) r.1 ∙ ap (map change_at) (sym r.3.changes) ∙ ap (λ (v : Id). changes_of v trace) r.2

    decision : (u : Id) (end : End) (cs : List Change) → Good trace (Ended u end) → (w : ToWrite) → FillsDevice d shape w dev → IsUnitWritten s u end w → changes_decided end (unit_named u s.units) ≡ cs →
        ShareFills d shape u cs dev ⊎ (DecisionFills d shape trace (Ended u end) u cs dev ⊎ (IsOfPages shape dev ⊎ (RenewalFills d shape dev ⊎ ShareRoomFills d shape cs dev)))
    decision u end cs good w fills x same = by written
      where
        decides : promise.EntryFills d (next_unit shape u cs (spell_move 3 x.made)) dev → DecisionFills d shape trace (Ended u end) u cs dev
        decides f = record {
          mask = mask_of (shares_of shape cs);
          bits = bits-of shape cs;
          move = x.made;
          moves =
              ap (λ (k : Kept). make_move k.conts x.made) keeps.state.units.kept ∙ x.moves
              ∙ ap (λ (k : Kept). Some k.conts) (sym (kept-says s trace (Ended u end) ground good keeps.state.units));
          fills = f;
        }

        by : FillsDevice d shape (OfUnit u cs x.made) dev →
            ShareFills d shape u cs dev ⊎ (DecisionFills d shape trace (Ended u end) u cs dev ⊎ (IsOfPages shape dev ⊎ (RenewalFills d shape dev ⊎ ShareRoomFills d shape cs dev)))
        by (inl (inl f)) = inr (inl (decides f))
        by (inl (inr room)) = inr (inr (inr (inl room)))
        by (inr (inl f)) = inl f
        by (inr (inr (inl h))) = inr (inr (inl (record { p = h.p; low = h.low; device = h.is })))
        by (inr (inr (inr room))) = inr (inr (inr (inr room)))

        written : FillsDevice d shape (OfUnit u cs x.made) dev
        written = subst (λ (l : List Change). FillsDevice d shape (OfUnit u l x.made) dev) same (subst (λ (v : ToWrite). FillsDevice d shape v dev) x.writes fills)

    -- of a unit that decides without changes
    branched : (u : Id) (n : ℕ) (cause : Cause) → ShareFills d shape u [] dev ⊎ (DecisionFills d shape trace (Ended u (Branched n cause)) u [] dev ⊎ (IsOfPages shape dev ⊎ (RenewalFills d shape dev ⊎ ShareRoomFills d shape [] dev)))
        → DecisionFills d shape trace (Ended u (Branched n cause)) u [] dev ⊎ (IsOfPages shape dev ⊎ RenewalFills d shape dev)
    branched u n cause (inl f) = absurd (no-share u f)
    branched u n cause (inr (inl f)) = inl f
    branched u n cause (inr (inr (inl pages))) = inr (inl pages)
    branched u n cause (inr (inr (inr (inl room)))) = inr (inr room)
    branched u n cause (inr (inr (inr (inr room)))) = absurd (no-share-room room)

    told-next : (ph : Phase) → phase trace ≡ ph → (o : Option Event) → next trace ≡ o → IfSome (Good trace) o → (w : ToWrite) → IsWrittenBy s o w → FillsDevice d shape w dev → NextFills d shape trace ph o dev
    told-next Fallen is None comes good w h fills = absurd h
    told-next Fallen is (Some e) comes good w h fills = let both : None ≡ Some e = sym (nothing-fallen trace played is) ∙ comes in absurd (cc both)
    told-next ph is (Some (Ended u (Committed n))) comes good w h fills = decision u (Committed n) (changes_of u trace) good w fills h (committed u n good)
    told-next ph is (Some (Ended u (Branched n cause))) comes good w h fills = branched u n cause (decision u (Branched n cause) [] good w fills h refl)
    told-next ph is (Some (Defined n text)) comes good w h fills = subst (λ (v : ToWrite). FillsDevice d shape v dev) h fills
    told-next ph is o comes good w h fills = absurd h

pub full-behind : (d : View) (shape : Shape) (trace : Trace) (dev : ℕ) → IsPlayed trace → IsFullBehind d shape trace dev → promise.IsFullBehind d shape trace dev
full-behind d shape trace dev played f = by f.writes
  where
    by : MayBeWritten f.point f.next → promise.IsFullBehind d shape trace dev
    by (inl h) =
        told-next d shape dev trace played f.point f.keeps (phase trace) refl (next trace) refl (replays trace played).coming f.next
        (subst (λ (o : Option Event). IsWrittenBy f.point.state.units o f.next) (sym f.keeps.next) h) f.fills
    by (inr (down, inl opening)) =
        subst (λ (ph : Phase). NextFills d shape trace ph (next trace) dev) (sym (f.keeps.state.units.phase ∙ down))
        (opening-fills d shape dev trace (next trace) (subst (λ (v : ToWrite). FillsDevice d shape v dev) opening f.fills))
    by (inr (down, inr boot)) =
        subst (λ (ph : Phase). NextFills d shape trace ph (next trace) dev) (sym (f.keeps.state.units.phase ∙ down))
        (boot-fills d shape dev trace (next trace) (subst (λ (v : ToWrite). FillsDevice d shape v dev) boot f.fills))

use Rattle.salt_bytes.specs.Coordinator.{CoordinatorHeader, header_in, spell_header}
use Rattle.salt_bytes.specs.Generations.{next_generation}
use Rattle.salt_bytes.specs.Log.{entries_in}
use Rattle.salt_bytes.specs.Spellable.{IsSpellableHeader}
use Rattle.salt_decisions.proofs.Contents.{log_bytes}
use Rattle.salt_decisions.proofs.Moving.{open_here}
use Rattle.salt_decisions.proofs.Snapshots.{apart_from, being_begun, counting_images, counts_alone, counts_still, header_reads, next_is_some, snapshot_begins, snapshot_counts}
use Rattle.salt_decisions.proofs.decisions.Decisions.snapshot.Goals as goal
use Rattle.salt_decisions.specs.Decisions.{BeginsWith, IsDecisions, conts_in, next_header, snapshot_payload, snapshotted}
use Rattle.salt_decisions.specs.HeaderPayload.{header_with}
use Rattle.salt_decisions.specs.Which.{which_in}
use Rattle.salt_decisions.specs.declared.decisions.Decisions.{Decisions}
use Rattle.salt_decisions.specs.declared.header.Definition.{Definition}
use Rattle.salt_decisions.specs.declared.header_payload.TheConstants.{FORMAT}
use Rattle.salt_disk.proofs.CallAfterCall.{shrinks_on}
use Rattle.salt_disk.specs.Disks.{IsUnchanged, KeepsOthers}
use Rattle.salt_disk.specs.declared.disks.DiskErr.TheVariants.{Full}
use Rattle.salt_disk.specs.declared.disks.DiskErr.{DiskErr}
use Rattle.salt_gatelog.specs.Log as gates
use Rattle.salt_stands.specs.Coordinator.{device_of}
use Rattle.salt_stands.specs.Pieces.{other_log}
use Rattle.salt_values.specs.declared.cont.Cont.{Cont}
use Rattle.std.proofs.Common.{Err, List, None, Option, Some, [], ap, refl, subst, sym, true, ℕ, ◌≡◌, ◌∙◌}
use Rattle.std.proofs.lemmas.Result.{err_from_is_err_and}
use Rattle.std.specs.Prelude.{nat_le}

pub returns-in_err-append-clause-images : goal.returns-in_err-append-clause-images
returns-in_err-append-clause-images g c which log h =
    let d0 = g.D.Disks.view c.args.disks.now in
    let x = c.self.inside in
    let was = subst (λ (y : Decisions). IsDecisions d0 y which log) (sym c.self.view_is) h in
    let own : which_in c.other-which.result ≡ other_log which = c.other-which.ensures ∙ ap other_log was.own in
    let place : c.device.result ≡ device_of 0 (other_log which) = c.device.ensures ∙ ap (device_of 0) own in
    let header : ℕ → List Definition → List Cont → CoordinatorHeader = λ n ds cs. header_with n x.shape x.boot x.decisions ds cs in
    let same : header c.next_generation-generation.result c.as_slice-definitions.result.now c.as_slice-conts.result.now ≡ header (next_generation x.generation) x.definitions x.conts =
    ap (λ n. header n c.as_slice-definitions.result.now c.as_slice-conts.result.now) c.next_generation-generation.ensures
    ∙ ap (λ ds. header (next_generation x.generation) ds c.as_slice-conts.result.now) c.as_slice-definitions.ensures
    ∙ ap (λ cs. header (next_generation x.generation) x.definitions cs) c.as_slice-conts.ensures in
    let some : nat_le 1 c.next_generation-generation.result ≡ true = ap (λ n. nat_le 1 n) c.next_generation-generation.ensures ∙ next_is_some x.generation in
    let good = subst IsSpellableHeader same (c.in_ok-payload.ensures.spellable some was.holds.parts) in
    let put : c.deref.result.now ≡ spell_header (header (next_generation x.generation) x.definitions x.conts) = c.deref.ensures.value ∙ c.in_ok-payload.ensures.put ∙ ap spell_header same in
    being_begun (g.D.Disks.view c.append.new.disks) c.in_ok-gate.gate (device_of 0 (other_log which)) (d0.bytes (device_of 0 (other_log which))) (next_header log (conts_in c.args.self.now)) c.deref.result.now (snapshot_payload c.args.self.now)
    (c.in_ok-gate.ensures.log.0 ∙ place) (put ∙ ap (λ (y : Decisions). snapshot_payload y) c.self.view_is)
    (ap (λ (y : Decisions). header_in (snapshot_payload y)) (sym c.self.view_is) ∙ header_reads d0 _ which log was good ∙ ap (λ (y : Decisions). Some (next_header log (conts_in y))) c.self.view_is)
    (c.in_err-append.ensures.images [] c.in_ok-gate.ensures.log.1)

pub returns-clause-images : goal.returns-clause-images
returns-clause-images g c which log h =
    let d0 = g.D.Disks.view c.args.disks.now in
    let x = c.self.inside in
    let was = subst (λ (y : Decisions). IsDecisions d0 y which log) (sym c.self.view_is) h in
    let own : which_in c.other-which.result ≡ other_log which = c.other-which.ensures ∙ ap other_log was.own in
    let place : c.device.result ≡ device_of 0 (other_log which) = c.device.ensures ∙ ap (device_of 0) own in
    let header : ℕ → List Definition → List Cont → CoordinatorHeader = λ n ds cs. header_with n x.shape x.boot x.decisions ds cs in
    let same : header c.next_generation-generation.result c.as_slice-definitions.result.now c.as_slice-conts.result.now ≡ header (next_generation x.generation) x.definitions x.conts =
    ap (λ n. header n c.as_slice-definitions.result.now c.as_slice-conts.result.now) c.next_generation-generation.ensures
    ∙ ap (λ ds. header (next_generation x.generation) ds c.as_slice-conts.result.now) c.as_slice-definitions.ensures
    ∙ ap (λ cs. header (next_generation x.generation) x.definitions cs) c.as_slice-conts.ensures in
    let some : nat_le 1 c.next_generation-generation.result ≡ true = ap (λ n. nat_le 1 n) c.next_generation-generation.ensures ∙ next_is_some x.generation in
    let good = subst IsSpellableHeader same (c.in_ok-payload.ensures.spellable some was.holds.parts) in
    let put : c.deref.result.now ≡ spell_header (header (next_generation x.generation) x.definitions x.conts) = c.deref.ensures.value ∙ c.in_ok-payload.ensures.put ∙ ap spell_header same in
    being_begun (g.D.Disks.view c.append.new.disks) c.in_ok-gate.gate (device_of 0 (other_log which)) (d0.bytes (device_of 0 (other_log which))) (next_header log (conts_in c.args.self.now)) c.deref.result.now (snapshot_payload c.args.self.now)
    (c.in_ok-gate.ensures.log.0 ∙ place) (put ∙ ap (λ (y : Decisions). snapshot_payload y) c.self.view_is)
    (ap (λ (y : Decisions). header_in (snapshot_payload y)) (sym c.self.view_is) ∙ header_reads d0 _ which log was good ∙ ap (λ (y : Decisions). Some (next_header log (conts_in y))) c.self.view_is)
    (c.in_ok-append.ensures.images [] c.in_ok-gate.ensures.log.1)

pub returns-clause-ok : goal.returns-clause-ok
returns-clause-ok g c which log h =
    let d0 = g.D.Disks.view c.args.disks.now in
    let d1 = g.D.Disks.view c.create.new.disks in
    let d2 = g.D.Disks.view c.append.new.disks in
    let x = c.self.inside in
    let was = subst (λ (y : Decisions). IsDecisions d0 y which log) (sym c.self.view_is) h in
    let own : which_in c.other-which.result ≡ other_log which = c.other-which.ensures ∙ ap other_log was.own in
    let place : c.device.result ≡ device_of 0 (other_log which) = c.device.ensures ∙ ap (device_of 0) own in
    let device : gates.device_of c.in_ok-gate.gate ≡ device_of 0 (other_log which) = c.in_ok-gate.ensures.log.0 ∙ place in
    let first : KeepsOthers (device_of 0 (other_log which)) d0 d1 None = subst (λ dev. KeepsOthers dev d0 d1 None) place c.in_ok-gate.ensures.others in
    let second : KeepsOthers (device_of 0 (other_log which)) d1 d2 None = subst (λ dev. KeepsOthers dev d1 d2 None) device c.in_ok-append.ensures.others in
    let header : ℕ → List Definition → List Cont → CoordinatorHeader = λ n ds cs. header_with n x.shape x.boot x.decisions ds cs in
    let same : header c.next_generation-generation.result c.as_slice-definitions.result.now c.as_slice-conts.result.now ≡ header (next_generation x.generation) x.definitions x.conts =
    ap (λ n. header n c.as_slice-definitions.result.now c.as_slice-conts.result.now) c.next_generation-generation.ensures
    ∙ ap (λ ds. header (next_generation x.generation) ds c.as_slice-conts.result.now) c.as_slice-definitions.ensures
    ∙ ap (λ cs. header (next_generation x.generation) x.definitions cs) c.as_slice-conts.ensures in
    let some : nat_le 1 c.next_generation-generation.result ≡ true = ap (λ n. nat_le 1 n) c.next_generation-generation.ensures ∙ next_is_some x.generation in
    let good = subst IsSpellableHeader same (c.in_ok-payload.ensures.spellable some was.holds.parts) in
    let put : c.deref.result.now ≡ spell_header (header (next_generation x.generation) x.definitions x.conts) = c.deref.ensures.value ∙ c.in_ok-payload.ensures.put ∙ ap spell_header same in
    let now : Decisions = record {
      which = which_in c.other-which.result;
      gate = c.append.new.self;
      format = FORMAT;
      generation = c.next_generation-generation.result;
      shape = x.shape;
      boot = x.boot;
      decisions = x.decisions;
      definitions = x.definitions;
      conts = x.conts;
    } in
    subst (λ (y : Decisions). IsDecisions d2 now (other_log which) (snapshotted log (conts_in y))) c.self.view_is
    (record {
      own = own;
      holds = record {
        format = refl;
        generation = c.next_generation-generation.ensures ∙ ap next_generation was.holds.generation;
        shape = was.holds.shape;
        boot = was.holds.boot;
        decisions = was.holds.decisions;
        definitions = was.holds.definitions;
        conts = open_here log x.conts;
        parts = was.holds.parts;
      };
      counting = snapshot_counts d0 _ which log was d1 d2 c.in_ok-gate.gate c.append.new.self c.deref.result.now put good device first second c.append.ensures.device (c.in_ok-append.ensures.ok [] c.in_ok-gate.ensures.log.1);
    })

pub returns-clause-begins : goal.returns-clause-begins
returns-clause-begins g c which log h =
    let d0 = g.D.Disks.view c.args.disks.now in
    let d1 = g.D.Disks.view c.create.new.disks in
    let d2 = g.D.Disks.view c.append.new.disks in
    let x = c.self.inside in
    let was = subst (λ (y : Decisions). IsDecisions d0 y which log) (sym c.self.view_is) h in
    let own : which_in c.other-which.result ≡ other_log which = c.other-which.ensures ∙ ap other_log was.own in
    let place : c.device.result ≡ device_of 0 (other_log which) = c.device.ensures ∙ ap (device_of 0) own in
    let device : gates.device_of c.in_ok-gate.gate ≡ device_of 0 (other_log which) = c.in_ok-gate.ensures.log.0 ∙ place in
    let first : KeepsOthers (device_of 0 (other_log which)) d0 d1 None = subst (λ dev. KeepsOthers dev d0 d1 None) place c.in_ok-gate.ensures.others in
    let second : KeepsOthers (device_of 0 (other_log which)) d1 d2 None = subst (λ dev. KeepsOthers dev d1 d2 None) device c.in_ok-append.ensures.others in
    let header : ℕ → List Definition → List Cont → CoordinatorHeader = λ n ds cs. header_with n x.shape x.boot x.decisions ds cs in
    let same : header c.next_generation-generation.result c.as_slice-definitions.result.now c.as_slice-conts.result.now ≡ header (next_generation x.generation) x.definitions x.conts =
    ap (λ n. header n c.as_slice-definitions.result.now c.as_slice-conts.result.now) c.next_generation-generation.ensures
    ∙ ap (λ ds. header (next_generation x.generation) ds c.as_slice-conts.result.now) c.as_slice-definitions.ensures
    ∙ ap (λ cs. header (next_generation x.generation) x.definitions cs) c.as_slice-conts.ensures in
    let some : nat_le 1 c.next_generation-generation.result ≡ true = ap (λ n. nat_le 1 n) c.next_generation-generation.ensures ∙ next_is_some x.generation in
    let good = subst IsSpellableHeader same (c.in_ok-payload.ensures.spellable some was.holds.parts) in
    let put : c.deref.result.now ≡ spell_header (header (next_generation x.generation) x.definitions x.conts) = c.deref.ensures.value ∙ c.in_ok-payload.ensures.put ∙ ap spell_header same in
    let begins = snapshot_begins d0 _ which log was d1 d2 c.in_ok-gate.gate c.append.new.self c.deref.result.now put good device first second c.append.ensures.device (c.in_ok-append.ensures.ok [] c.in_ok-gate.ensures.log.1) in
    subst (λ (y : Decisions). BeginsWith d2 (device_of 0 (other_log which)) (next_header log (conts_in y)) (snapshot_payload y)) c.self.view_is
    (subst (λ (payload : List ℕ). BeginsWith d2 (device_of 0 (other_log which)) (next_header log x.conts) payload) put begins)

pub returns-clause-entries : goal.returns-clause-entries
returns-clause-entries g c = (c.in_ok-append.ensures.ok [] c.in_ok-gate.ensures.log.1).count

pub returns-clause-counting : goal.returns-clause-counting
returns-clause-counting g c which log h =
    let d0 = g.D.Disks.view c.args.disks.now in
    let d1 = g.D.Disks.view c.create.new.disks in
    let d2 = g.D.Disks.view c.append.new.disks in
    let was = subst (λ (y : Decisions). IsDecisions d0 y which log) (sym c.self.view_is) h in
    let own : which_in c.other-which.result ≡ other_log which = c.other-which.ensures ∙ ap other_log was.own in
    let place : c.device.result ≡ device_of 0 (other_log which) = c.device.ensures ∙ ap (device_of 0) own in
    let device : gates.device_of c.in_ok-gate.gate ≡ device_of 0 (other_log which) = c.in_ok-gate.ensures.log.0 ∙ place in
    let first : KeepsOthers (device_of 0 (other_log which)) d0 d1 None = subst (λ dev. KeepsOthers dev d0 d1 None) place c.in_ok-gate.ensures.others in
    let second : KeepsOthers (device_of 0 (other_log which)) d1 d2 None = subst (λ dev. KeepsOthers dev d1 d2 None) device c.in_ok-append.ensures.others in
    let w = device_of 0 which in
    counting_images d0 c.args.self.now which log h d2 (shrinks_on d0 d1 d2 w (first.images w (apart_from which)) (second.images w (apart_from which)))

-- WHERE IT IS FULL

pub returns-in_err-gate-clause-counts : goal.returns-in_err-gate-clause-counts
returns-in_err-gate-clause-counts g c which log h n is told =
    let d0 = g.D.Disks.view c.args.disks.now in
    let d1 = g.D.Disks.view c.create.new.disks in
    let was = subst (λ (y : Decisions). IsDecisions d0 y which log) (sym c.self.view_is) h in
    let own : which_in c.other-which.result ≡ other_log which = c.other-which.ensures ∙ ap other_log was.own in
    let place : c.device.result ≡ device_of 0 (other_log which) = c.device.ensures ∙ ap (device_of 0) own in
    let p = err_from_is_err_and c.from_residual-in_err-gate.result c.from_residual-in_err-gate.ensures.1 in
    let full : c.in_err-gate.field-0.0 ≡ Full n = cc (is, p.1, p.2) in
    let others = subst (λ (k : Option DiskErr). KeepsOthers c.device.result d0 d1 k) (ap (λ (k : DiskErr). Some k) full) c.in_err-gate.ensures.others in
    let keeps : KeepsOthers (device_of 0 (other_log which)) d0 d1 (Some (Full n)) = subst (λ dev. KeepsOthers dev d0 d1 (Some (Full n))) place others in
    let left : IsUnchanged d0 d1 (device_of 0 (other_log which)) = subst (IsUnchanged d0 d1) place (c.in_err-gate.ensures.untouched n (ap Err full)) in
    counts_still d0 c.args.self.now which log h d1 (keeps.kept (device_of 0 which) (apart_from which)).bytes left.bytes told

pub returns-in_err-append-clause-counts : goal.returns-in_err-append-clause-counts
returns-in_err-append-clause-counts g c which log h n is told =
    let d0 = g.D.Disks.view c.args.disks.now in
    let d1 = g.D.Disks.view c.create.new.disks in
    let d2 = g.D.Disks.view c.append.new.disks in
    let was = subst (λ (y : Decisions). IsDecisions d0 y which log) (sym c.self.view_is) h in
    let own : which_in c.other-which.result ≡ other_log which = c.other-which.ensures ∙ ap other_log was.own in
    let place : c.device.result ≡ device_of 0 (other_log which) = c.device.ensures ∙ ap (device_of 0) own in
    let p = err_from_is_err_and c.from_residual-in_err-append.result c.from_residual-in_err-append.ensures.1 in
    let full : c.in_err-append.field-0.0 ≡ Full n = cc (is, p.1, p.2) in
    let device : gates.device_of c.in_ok-gate.gate ≡ device_of 0 (other_log which) = c.in_ok-gate.ensures.log.0 ∙ place in
    let first : KeepsOthers (device_of 0 (other_log which)) d0 d1 None = subst (λ dev. KeepsOthers dev d0 d1 None) place c.in_ok-gate.ensures.others in
    let others = subst (λ (k : Option DiskErr). KeepsOthers (gates.device_of c.in_ok-gate.gate) d1 d2 k) (ap (λ (k : DiskErr). Some k) full) c.in_err-append.ensures.others in
    let second : KeepsOthers (device_of 0 (other_log which)) d1 d2 (Some (Full n)) = subst (λ dev. KeepsOthers dev d1 d2 (Some (Full n))) device others in
    let left : IsUnchanged d1 d2 (gates.device_of c.in_ok-gate.gate) = c.in_err-append.ensures.untouched n (ap Err full) in
    let blank = ap (λ dev. entries_in (d2.bytes dev)) (sym device) ∙ ap entries_in left.bytes ∙ log_bytes d1 c.in_ok-gate.gate [] (first.shape.told ∙ told) c.in_ok-gate.ensures.log.1 in
    counts_alone d0 c.args.self.now which log h d2 ((second.kept (device_of 0 which) (apart_from which)).bytes ∙ (first.kept (device_of 0 which) (apart_from which)).bytes) blank told

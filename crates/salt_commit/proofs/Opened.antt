-- Partitions that are read under a coordinator's log, and their decided units applied.
use Rattle.law_definitions.specs.Texts.{definition_in}
use Rattle.salt_ast.specs.declared.trees.TableDef.{TableDef}
use Rattle.salt_checkpoint.proofs.Torn.{keeps_all, keeps_more}
use Rattle.salt_checkpoint.specs.Sides.{KeepsNamed}
use Rattle.salt_commit.proofs.Units.{kept_units}
use Rattle.salt_commit.specs.Openings.{IsRefusal, OpensAll, PartsFail, StandOn, UnitsPassUnder, WroteSpare, named_units}
use Rattle.salt_commit.specs.Stores.{decided_by}
use Rattle.salt_decisions.specs.Kept.{IsKept}
use Rattle.salt_decisions.specs.declared.kept.Kept.{Kept}
use Rattle.salt_disk.proofs.CallAfterCall.{keeps_on, keeps_wider}
use Rattle.salt_disk.specs.Disks.{FullWhere, KeepsAll, KeepsBut, View}
use Rattle.salt_disk.specs.declared.disks.DiskErr.TheVariants.{Failed, Full, Memory, Stopped}
use Rattle.salt_disk.specs.declared.disks.DiskErr.{DiskErr}
use Rattle.salt_gatelog.specs.Answers.{open_err_of, open_err_of_pair}
use Rattle.salt_gatelog.specs.declared.pair.PairErr.TheVariants.{Disk, NotSalt}
use Rattle.salt_gatelog.specs.declared.pair.PairErr.{PairErr}
use Rattle.salt_model.specs.Kept.{Definition}
use Rattle.salt_paged.specs.Partitions.{ArePartitions}
use Rattle.salt_paged.specs.declared.partition.Partition.{Partition}
use Rattle.salt_paged.specs.declared.redo.ReadPartition.{ReadPartition}
use Rattle.salt_parts.proofs.Lists.{longer}
use Rattle.salt_parts.specs.Judging.{HasTables}
use Rattle.salt_parts.specs.Openings.{HaveUnits, IsPagesOf, IsRulingOf, PagesAreFull, PartsRefuse, ReadsAll, WereRead, decided_in}
use Rattle.salt_parts.specs.declared.ruling.Ruling.{Ruling}
use Rattle.salt_place.specs.declared.placement.Shape.{Shape}
use Rattle.salt_stands.specs.Coordinator.{Coordinator}
use Rattle.salt_stands.specs.CoordinatorLog.{CoordinatorLog}
use Rattle.salt_stands.specs.Partition.{pages_device}
use Rattle.salt_stands.specs.Pieces.{PartView}
use Rattle.salt_values.specs.declared.id.Id.{Id}
use Rattle.std.proofs.Common.{IsTrue, List, None, Option, Some, [], ap, arith, length, refl, slice_get, subst, sym, ℕ, ◌+◌, ◌++◌, ◌<◌, ◌≡◌, ◌∙◌, ◌∷◌}
use Rattle.std.specs.Prelude.{suc, zero}

-- WHAT THE LOG TELLS each partition

-- the first n of them
pub record RuledSoFar (kept : Kept) (lists : List (List Id)) (n : ℕ) : Type 0 where
  pub size : length lists ≡ n
  pub each : (log : CoordinatorLog) → IsKept kept log → HaveUnits lists (decided_in log)

pub none_ruled : (kept : Kept) → RuledSoFar kept [] 0
none_ruled kept = record { size = refl; each = λ log k p low. absurd (omega (arith, low)) }

have_more : {X : Type 0} (xs : List X) (f : ℕ → X) (x : X) → ((p : ℕ) → p < length xs → slice_get xs p ≡ Some (f p)) → x ≡ f (length xs) → (p : ℕ) → p < length (xs ++ x ∷ []) → slice_get (xs ++ x ∷ []) p ≡ Some (f p)
have_more [] f x have last zero low = ap Some last
have_more [] f x have last (suc p) low = absurd (omega (arith, low))
have_more (y ∷ ys) f x have last zero low = have 0 (omega arith)
have_more (y ∷ ys) f x have last (suc p) low = have_more ys (λ k. f (suc k)) x (λ q h. have (suc q) (omega (arith, h))) last p (omega (arith, low))

pub one_ruled : (kept : Kept) (lists : List (List Id)) (n : ℕ) (units : List Id) → RuledSoFar kept lists n → units ≡ named_units n kept.decided kept.masks → RuledSoFar kept (lists ++ units ∷ []) (n + 1)
one_ruled kept lists n units so is = record {
  size = longer lists units ∙ ap (λ k. k + 1) so.size;
  each = λ log k. have_more lists (decided_in log) units (so.each log k) (is ∙ kept_units n kept log k ∙ ap (decided_in log) (sym so.size));
}

pub is_ruling : (kept : Kept) (lists : List (List Id)) (n : ℕ) (x : Ruling) → RuledSoFar kept lists n → x.boot ≡ kept.boot → x.format ≡ kept.format → x.decided.items ≡ lists → (log : CoordinatorLog) → IsKept kept log → IsRulingOf x log
is_ruling kept lists n x so boot format same log k = record {
  boot = boot ∙ k.boot;
  format = format ∙ k.format;
  decided = subst (λ xs. HaveUnits xs (decided_in log)) (sym same) (so.each log k);
}

-- a coordinator of the log
abbrev pub of_a_log : CoordinatorLog → Coordinator Definition
of_a_log log = record { log = log; definitions = []; conts = [] }

-- WHAT IS REFUSED

pub refuses_fail : (c : Coordinator Definition) (bytes : ℕ → List ℕ) (n : ℕ) (e : PairErr) → PartsRefuse definition_in c bytes n e → PartsFail c bytes n (open_err_of_pair e)
refuses_fail c bytes n (NotSalt dev) h = h
refuses_fail c bytes n (Disk Failed) h = tt
refuses_fail c bytes n (Disk Stopped) h = absurd h
refuses_fail c bytes n (Disk (Full dev)) h = absurd h
refuses_fail c bytes n (Disk Memory) h = tt

-- all of them stand, and a call of the disks failed behind it
pub stops_fail : (c : Coordinator Definition) (bytes : ℕ → List ℕ) (n : ℕ) (v : ℕ → PartView) → StandOn bytes c n v → (e : DiskErr) → PartsFail c bytes n (open_err_of e)
stops_fail c bytes n v stood Failed = tt
stops_fail c bytes n v stood Stopped = (v, stood)
stops_fail c bytes n v stood (Full dev) = (v, stood)
stops_fail c bytes n v stood Memory = tt

pub no_refusal : (e : DiskErr) → IsRefusal (open_err_of e) → ⊥
no_refusal Failed h = h
no_refusal Stopped h = h
no_refusal (Full dev) h = h
no_refusal Memory h = h

-- BEHIND A CALL THAT READ THEM ALL

module _ (d e f : View) (c : Coordinator Definition) (n m : ℕ) (v : ℕ → PartView) (keeps : KeepsAll d e None) (same : m ≡ n) where
  pub wrote_spare : StandOn d.bytes c n v → ((p : ℕ) → p < m → KeepsNamed (v p).log.header.sides e f (pages_device p)) → WroteSpare d f c n
  wrote_spare stood named = record {
    v = v;
    stood = stood;
    named = λ p low. keeps_more (v p).log.header.sides d e f (pages_device p) (keeps_all (v p).log.header.sides d e (pages_device p) (keeps.images (pages_device p) (λ none. none))) (named p (omega (arith, low, same)));
  }

  pub full_under : StandOn d.bytes c n v → (answer : Option DiskErr) → PagesAreFull e m v (decided_by c) answer → FullWhere (UnitsPassUnder d c n) answer
  full_under stood None full = tt
  full_under stood (Some Failed) full = tt
  full_under stood (Some Stopped) full = tt
  full_under stood (Some Memory) full = tt
  full_under stood (Some (Full dev)) full = record {
    v = v;
    stood = stood;
    passes = record { p = full.p; low = omega (arith, full.low, same); device = full.device; over = omega (arith, full.over, keeps.shape.limit dev) };
  }

-- only pages are written
pub redone_others : (d e f : View) (n m : ℕ) (answer : Option DiskErr) → KeepsAll d e None → m ≡ n → KeepsBut (IsPagesOf m) e f answer → KeepsBut (IsPagesOf n) d f answer
redone_others d e f n m answer keeps same others = keeps_on (IsPagesOf n) d e f answer
    (keeps_wider (λ _. ⊥) (IsPagesOf n) d e None (λ dev none. absurd none) keeps)
    (keeps_wider (IsPagesOf m) (IsPagesOf n) e f answer (λ dev t. record { p = t.p; low = omega (arith, t.low, same); is = t.is }) others)

-- ALL OF THEM

module _ (schema : List TableDef) (shape : Shape) (n : ℕ) (d e : View) (c : Coordinator Definition) (read : List ReadPartition) (reads : ReadsAll definition_in schema shape n d e c read) where
  pub were_read : WereRead e read
  were_read = record { v = reads.view; are = reads.are }

  pub stand_on : IsTrue d.told → HasTables schema shape c → StandOn d.bytes c n reads.view
  stand_on told has = record { each = λ p low. reads.stand told has p low }

  pub opens_all : (f : View) (parts : List Partition) → length parts ≡ length read → ArePartitions f parts reads.view (decided_by c) → OpensAll schema shape n d f c parts
  opens_all f parts size are = record { size = size ∙ reads.size; view = reads.view; are = are; under = reads.under; stand = λ told has. stand_on told has }

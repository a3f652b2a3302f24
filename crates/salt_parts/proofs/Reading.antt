-- Partitions are read, one after another.
use Rattle.salt_ast.specs.declared.trees.TableDef.{TableDef}
use Rattle.salt_checkpoint.proofs.Torn.{named_refl}
use Rattle.salt_checkpoint.specs.Checkpoints.{NamedSettled}
use Rattle.salt_checkpoint.specs.Sides.{NamedSame}
use Rattle.salt_disk.proofs.CallAfterCall.{cause_none, cause_on, keeps_on, same_shape}
use Rattle.salt_disk.specs.Disks.{HasCause, IsSettled, KeepsAll, View}
use Rattle.salt_gatelog.specs.declared.pair.PairErr.TheVariants.{Disk, NotSalt}
use Rattle.salt_gatelog.specs.declared.pair.PairErr.{PairErr}
use Rattle.salt_model.specs.Kept.{Definition}
use Rattle.salt_paged.proofs.Framed.{read_kept}
use Rattle.salt_paged.specs.Openings.{IsReadAs}
use Rattle.salt_paged.specs.declared.redo.ReadPartition.{ReadPartition}
use Rattle.salt_partition.proofs.Steps.{unchanged}
use Rattle.salt_parts.proofs.Lists.{each_push, if_some, longer, make_some, not_past}
use Rattle.salt_parts.specs.Judging.{HasTables}
use Rattle.salt_parts.specs.Openings.{HasRoom, IsPartFault, IsRulingOf, PartRefuses, PartsRefuse, ReadsAll, ReadsIn}
use Rattle.salt_parts.specs.declared.ruling.Ruling.{Ruling}
use Rattle.salt_place.specs.declared.placement.Shape.{Shape}
use Rattle.salt_stands.proofs.Assembled.{part_is_at}
use Rattle.salt_stands.specs.Commits.{with_view}
use Rattle.salt_stands.specs.Coordinator.{Coordinator}
use Rattle.salt_stands.specs.Fitting.{definitions_reading}
use Rattle.salt_stands.specs.Partition.{is_format_under, pages_device, part_device}
use Rattle.salt_stands.specs.Pieces.{PartStands, PartView, tables_at_part}
use Rattle.salt_stands.specs.Stands.{logs_of}
use Rattle.std.proofs.Common.{Bool, IsTrue, List, None, Option, Some, [], ap, arith, false, inl, inr, refl, slice_get, subst, sym, true, ℕ, ◌+◌, ◌++◌, ◌<◌, ◌≡◌, ◌≢◌, ◌⊎◌, ◌∙◌, ◌∷◌}
use Rattle.std.proofs.Math.Path.{fun_ext}
use Rattle.std.proofs.lemmas.Bool.Decides.{Decides-eqb}
use Rattle.std.proofs.lemmas.Bool.{cases_eq}
use Rattle.std.specs.Prelude.{IfSome, if◌then◌else◌, ◌==◌}

-- a call that writes nothing leaves the bytes
pub same_bytes : (d e : View) → KeepsAll d e None → e.bytes ≡ d.bytes
same_bytes d e keeps = fun_ext (λ dev. (keeps.kept dev (λ none. none)).bytes)

-- where nothing is pending on a device, nothing is on any of its sides
pub all_settled : (sides : List ℕ) (d : View) (dev : ℕ) → IsSettled d dev → NamedSettled sides d dev
all_settled sides d dev settled c left = subst (λ (b : List ℕ). NamedSame sides (d.bytes dev) b) (sym (settled c left)) (named_refl sides (d.bytes dev))

pub still_settled : (d e : View) (dev : ℕ) → KeepsAll d e None → IsSettled d dev → IsSettled e dev
still_settled d e dev keeps settled c left = settled c ((unchanged d e keeps dev).images c left) ∙ sym (unchanged d e keeps dev).bytes

-- there is room still
pub room_on : (n : ℕ) (d e : View) → KeepsAll d e None → HasRoom d n → HasRoom e n
room_on n d e keeps room = record {
  known = λ p low. omega (arith, room.known p low, keeps.shape.count);
  settled = λ dev low. still_settled d e dev keeps (room.settled dev (omega (arith, low, keeps.shape.count)));
}

view_here : (n : ℕ) (x : PartView) (v : ℕ → PartView) → with_view n x v n ≡ x
view_here n x v = ap (λ b. if b then x else v n) ((Decides-eqb n n).1 refl)

view_there : (n : ℕ) (x : PartView) (v : ℕ → PartView) (q : ℕ) → q ≢ n → with_view n x v q ≡ v q
view_there n x v q other = ap (λ b. if b then x else v q) (apart (q == n) refl)
  where
    apart : (b : Bool) → (q == n) ≡ b → b ≡ false
    apart true e = absurd (other ((Decides-eqb q n).0 e))
    apart false e = refl

pub record ReadSoFar (d0 d : View) (schema : List TableDef) (shape : Shape) (ruling : Ruling) (read : List ReadPartition) (n : ℕ) : Type 0 where
  pub keeps : KeepsAll d0 d None
  pub cause : HasCause d0 d None
  pub all : (reading : List ℕ → Option Definition) (c : Coordinator Definition) → IsRulingOf ruling c.log → ReadsAll reading schema shape n d0 d c read

pub none_read : (d : View) (schema : List TableDef) (shape : Shape) (ruling : Ruling) (some : ℕ → PartView) → ReadSoFar d d schema shape ruling [] 0
none_read d schema shape ruling some = record {
  keeps = record { shape = same_shape d; kept = λ dev other. record { bytes = refl; images = λ c left. left }; images = λ dev other c left. left };
  cause = cause_none d;
  all = λ reading c k. record { size = refl; view = some; are = record { each = λ p. tt }; under = λ p low. absurd (omega (arith, low)); stand = λ told has p low. absurd (omega (arith, low)) };
}

module _ (d0 d : View) (schema : List TableDef) (shape : Shape) (ruling : Ruling) (read : List ReadPartition) (n : ℕ) (so_far : ReadSoFar d0 d schema shape ruling read n) where
  -- the first that is refused
  pub first_fault : (reading : List ℕ → Option Definition) (c : Coordinator Definition) → IsRulingOf ruling c.log → HasTables schema shape c → IsTrue d0.told → (parts : ℕ) → n < parts → (e : PairErr) → PartRefuses reading c d.bytes n e → PartsRefuse reading c d0.bytes parts e
  first_fault reading c k has told parts low (NotSalt dev) fault = record {
    p = n;
    low = low;
    before = λ q below. let all = so_far.all reading c k in (tables_at_part c q (all.view q), part_is_at (definitions_reading reading) c (logs_of d0.bytes) d0.bytes q (all.view q) (all.stand told has q below));
    fault = subst (λ (bytes : ℕ → List ℕ). IsPartFault reading c bytes n dev) (same_bytes d0 d so_far.keeps) fault;
  }
  first_fault reading c k has told parts low (Disk e) fails = fails

  -- one more
  module _ (e : View) (x : ReadPartition) (keeps : KeepsAll d e None) (cause : HasCause d e None) (reads : (reading : List ℕ → Option Definition) (c : Coordinator Definition) → IsRulingOf ruling c.log → ReadsIn reading schema shape d e c n x) where
    module _ (reading : List ℕ → Option Definition) (c : Coordinator Definition) (k : IsRulingOf ruling c.log) where
      before : ReadsAll reading schema shape n d0 d c read
      before = so_far.all reading c k

      own : ReadsIn reading schema shape d e c n x
      own = reads reading c k

      Is : ℕ → ReadPartition → Type 0
      Is p y = IsReadAs e y p (with_view n own.view before.view p)

      below : (p : ℕ) (y : ReadPartition) → slice_get read p ≡ Some y → p ≢ n
      below p y is same = not_past read p y is (omega (arith, same, before.size))

      stay : (p : ℕ) → IfSome (slice_get read p) (Is p)
      unfolding Is
      stay p = make_some (slice_get read p) (λ y. IsReadAs e y p (with_view n own.view before.view p)) (λ y is.
          subst (λ v. IsReadAs e y p v) (sym (view_there n own.view before.view p (below p y is)))
          (read_kept d e y p (before.view p) keeps.shape (unchanged d e keeps (part_device p)) (unchanged d e keeps (part_device p + 1)) (unchanged d e keeps (pages_device p))
          (if_some (slice_get read p) y (λ z. IsReadAs d z p (before.view p)) is (before.are.each p))))

      here : Is n x
      unfolding Is
      here = subst (λ v. IsReadAs e x n v) (sym (view_here n own.view before.view)) own.is

      each : (p : ℕ) → IfSome (slice_get (read ++ x ∷ []) p) (Is p)
      each p =
          let zeroed : (q : ℕ) → 0 + q ≡ q = λ q. omega arith in
          subst (λ j. IfSome (slice_get (read ++ x ∷ []) p) (Is j)) (zeroed p)
          (each_push Is read n 0 x (omega (arith, before.size)) (λ q. subst (λ j. IfSome (slice_get read q) (Is j)) (sym (zeroed q)) (stay q)) here p)

      stand : IsTrue d0.told → HasTables schema shape c → (p : ℕ) → p < n + 1 → PartStands (definitions_reading reading) c (logs_of d0.bytes) d0.bytes p (with_view n own.view before.view p)
      stand told has p low = by (cases_eq p n)
        where
          by : (p ≡ n) ⊎ (p ≢ n) → PartStands (definitions_reading reading) c (logs_of d0.bytes) d0.bytes p (with_view n own.view before.view p)
          by (inl same) = subst (λ q. PartStands (definitions_reading reading) c (logs_of d0.bytes) d0.bytes q (with_view n own.view before.view q)) (sym same)
              (subst (λ v. PartStands (definitions_reading reading) c (logs_of d0.bytes) d0.bytes n v) (sym (view_here n own.view before.view))
              (subst (λ (bytes : ℕ → List ℕ). PartStands (definitions_reading reading) c (logs_of bytes) bytes n own.view) (same_bytes d0 d so_far.keeps) (own.stands (so_far.keeps.shape.told ∙ told) has)))
          by (inr other) = subst (λ v. PartStands (definitions_reading reading) c (logs_of d0.bytes) d0.bytes p v) (sym (view_there n own.view before.view p other)) (before.stand told has p (omega (arith, low, other)))

      under : (p : ℕ) → p < n + 1 → is_format_under c.log.header.format (with_view n own.view before.view p).log.header.format ≡ true
      under p low = by (cases_eq p n)
        where
          by : (p ≡ n) ⊎ (p ≢ n) → is_format_under c.log.header.format (with_view n own.view before.view p).log.header.format ≡ true
          by (inl same) = ap (λ q. is_format_under c.log.header.format (with_view n own.view before.view q).log.header.format) same ∙ ap (λ (v : PartView). is_format_under c.log.header.format v.log.header.format) (view_here n own.view before.view) ∙ own.under
          by (inr other) = ap (λ (v : PartView). is_format_under c.log.header.format v.log.header.format) (view_there n own.view before.view p other) ∙ before.under p (omega (arith, low, other))

      with_one : ReadsAll reading schema shape (n + 1) d0 e c (read ++ x ∷ [])
      unfolding Is
      with_one = record { size = longer read x ∙ ap (λ j. j + 1) before.size; view = with_view n own.view before.view; are = record { each = each }; under = under; stand = stand }

    pub one_read : ReadSoFar d0 e schema shape ruling (read ++ x ∷ []) (n + 1)
    one_read = record {
      keeps = keeps_on (λ _. ⊥) d0 d e None so_far.keeps keeps;
      cause = cause_on d0 d e None so_far.cause cause;
      all = λ reading c k. with_one reading c k;
    }

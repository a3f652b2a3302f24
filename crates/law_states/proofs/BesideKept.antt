-- What is read off a state is the trace's: clashes, victim, service, releases, and what is shown.
use Rattle.law_states.proofs.Abandoned.{first-program}
use Rattle.law_states.proofs.Closures.{release-from, same-bool}
use Rattle.law_states.proofs.Doing.{reach-kept}
use Rattle.law_states.proofs.Gone.{accepted-over, not-dead}
use Rattle.law_states.proofs.KeptGraph.{served-kept, victim-kept}
use Rattle.law_states.proofs.KeptPrograms.{covers-by, holds-by, unreleased-in}
use Rattle.law_states.proofs.KeptTable.{clashing-from, keeps-shown, table-members}
use Rattle.law_states.proofs.NextTold.{IsBeside}
use Rattle.law_states.proofs.Pairs.{}
use Rattle.law_states.proofs.Refused.{IsUnderWay}
use Rattle.law_states.specs.Keeps.{KeepsUnit}
use Rattle.law_states.specs.KeptLocks.{clash_in, is_owned_by}
use Rattle.law_states.specs.KeptSources.{gone_in}
use Rattle.law_states.specs.KeptWaits.{served_in, victim_in}
use Rattle.law_states.specs.Members.{In, SameMembers}
use Rattle.law_states.specs.OpenUnits.{OpenUnit, names_in}
use Rattle.law_states.specs.Readings.{WatchReading, base_item_by, beside_by, clash_by, first_parts, items_by, locks_by, locks_in, under_way_by, under_way_of}
use Rattle.law_states.specs.States.{Keeps, State}
use Rattle.law_story.proofs.Hiding.{Hides, hides}
use Rattle.law_story.proofs.Ids.{is_same_id-refl}
use Rattle.law_story.proofs.Lists.{either, has-in, in-cases, in-filter, in-filter_map, in-has, in-order}
use Rattle.law_story.proofs.Sound.{Sound}
use Rattle.law_story.proofs.Upheld.{holds}
use Rattle.law_story.proofs.WellKept.{of-start}
use Rattle.salt_ast.specs.declared.trees.Statement.{Statement}
use Rattle.salt_model.specs.Kept.{WellKept, cont_of}
use Rattle.salt_model.specs.Locks.{clashing, family_of, held, owners_of}
use Rattle.salt_model.specs.Played.{IsPlayed}
use Rattle.salt_model.specs.Programs.{finished_in, shares, under_way, unreleased}
use Rattle.salt_model.specs.Reads.{is_finished}
use Rattle.salt_model.specs.Shown.{base_item, base_items, lock_items}
use Rattle.salt_model.specs.Trace.{Trace, start_of}
use Rattle.salt_model.specs.Units.{is_open, kind_of, open_units, program_begun, units_begun}
use Rattle.salt_model.specs.Words.{Every, is_empty}
use Rattle.salt_model.specs.declared.events.Owner.{Owner}
use Rattle.salt_model.specs.declared.events.Owner.TheVariants.{Base, Unit}
use Rattle.salt_model.specs.declared.shown.BaseAt.TheVariants.{Finished, First, Next}
use Rattle.salt_model.specs.declared.shown.Item.{Item}
use Rattle.salt_values.specs.Id.{has_id, in_order, is_same_id}
use Rattle.salt_values.specs.declared.id.Id.{Id}
use Rattle.std.proofs.Common.{ap, inl, inr, subst, sym, ◌∙◌}
use Rattle.std.specs.List.{cons_option, filter, filter_map, flat_map}
use Rattle.std.specs.Prelude.{Bool, List, None, Option, Some, [], false, if◌then◌else◌, length, map, not, option_and_then, refl, true, ◌++◌, ◌∷◌, ◌≡◌}

map-in : {A B : Type 0} (f g : A → B) (xs : List A) → ((x : A) → In x xs → f x ≡ g x) → map f xs ≡ map g xs
map-in f g [] h = refl
map-in f g (x ∷ xs) h = λ i. h x (inl refl) i ∷ map-in f g xs (λ y m. h y (inr m)) i

parts-told : (trace : Trace) (os : List OpenUnit) → Every (KeepsUnit trace) os →
    filter_map (λ u. option_and_then program_begun (kind_of u trace)) (names_in os) ≡ first_parts os
parts-told trace [] h = refl
parts-told trace (o ∷ os) h = let k = h.0 in λ i. cons_option (option_and_then program_begun (k.kind i)) (parts-told trace os h.1 i)

abbrev of_base : Id → Option Id → Bool
of_base b o = elim o [ None ↦ false | Some c ↦ is_same_id b c ]

module _ (s : State) (trace : Trace) (keeps : Keeps s trace) (p : IsPlayed trace) (w : WellKept (start_of trace).kept) where
  same : SameMembers (locks_in s.watch) (held trace)
  same = table-members s.watch.table (held trace) keeps.watch.locks

  sound : Sound trace
  sound = (holds trace p (of-start (start_of trace).kept w)).sound

  hidden : Hides trace
  hidden = hides trace p (of-start (start_of trace).kept w)

  pub clash-told : (o : OpenUnit) (st : Statement) → KeepsUnit trace o → clashing trace o.unit st ≡ clash_by s o st
  clash-told o st k =
      clashing-from trace (locks_in s.watch) same o.unit st
      ∙ (λ i. owners_of (clash_in (Unit o.unit) (family_of (k.kind i)) (reach-kept trace s.units.kept o st keeps.units.kept k i) (locks_in s.watch)))

  pub under-way-told : under_way trace ≡ under_way_by s
  under-way-told =
      ap (λ us. in_order (unreleased trace ++ filter_map (λ u. option_and_then program_begun (kind_of u trace)) us)) keeps.units.units
      ∙ (λ i. in_order (keeps.watch.programs i ++ parts-told trace s.units.units keeps.units.each i))

  -- a program that is under way has not gone
  alive : (b : Id) → In b (under_way trace) → has_id b (gone_in trace) ≡ false
  alive b i =
      either (λ j. let r = unreleased-in trace b j in sym (accepted-over trace b hidden r.0) ∙ r.1) (λ j. part b j)
      (in-cases b (unreleased trace) first (in-order b (unreleased trace ++ first) i))
    where
      first : List Id
      first = filter_map (λ u. option_and_then program_begun (kind_of u trace)) (open_units trace)

      part : (b : Id) → In b first → has_id b (gone_in trace) ≡ false
      part b j =
          let m = in-filter_map (λ u. option_and_then program_begun (kind_of u trace)) b (open_units trace) j in
          let q = first-program (kind_of m.0 trace) b m.2 in
          let o = (in-filter (is_open trace) m.0 (units_begun trace) m.1).1 in
          not-dead trace b (λ d. sound.alive b m.0 o (subst (λ c. of_base b c ≡ true) (sym q) (is_same_id-refl b)) d)

  finished-told : (b : Id) → has_id b (gone_in trace) ≡ false → is_finished trace b ≡ s.watch.dependencies.finished b
  finished-told b n =
      same-bool (is_finished trace b) (s.watch.dependencies.finished b)
      (λ e. (keeps.watch.dependencies.finished b).1 (record { finished = has-in b (finished_in trace) e; unreleased = n }))
      (λ e. in-has b (finished_in trace) ((keeps.watch.dependencies.finished b).0 e).finished)

  base-told : (b : Id) → In b (under_way trace) → base_item trace b ≡ base_item_by s b
  base-told b i =
      let f = finished-told b (alive b i) in
      λ j. Item.Base b (keeps.names b j) (elim (cont_of b (keeps.units.kept j)) [ Some c ↦ Next c.next | None ↦ (if f j then Finished else First) ])

  pub bases-told : base_items trace ≡ map (base_item_by s) (under_way_by s)
  bases-told = map-in (base_item trace) (base_item_by s) (under_way trace) base-told ∙ ap (map (base_item_by s)) under-way-told

  pub under-way-kept : IsUnderWay trace (under_way_of s)
  under-way-kept = record {
    count = ap length under-way-told;
    holds = holds-by trace hidden ∙ ap (λ us. not (is_empty us)) keeps.watch.programs;
    covers = covers-by trace hidden ∙ (λ i. shares (keeps.units.named i) (keeps.watch.programs i));
    can_stop = keeps.can_stop;
    over_net = keeps.over_net;
  }

  module _ (x : WatchReading s.watch) where
    part-told : (o : Owner) → filter (is_owned_by o) (held trace) ≡ locks_by x o
    part-told o = sym (keeps-shown s.watch.table (x.part o) (held trace) o keeps.watch.locks (x.rises o) (x.whose o))

    pub locks-told : lock_items trace ≡ (items_by s x).locks
    locks-told = λ i.
        map Item.Lock (flat_map (λ b. part-told (Base b) i) (keeps.watch.programs i))
        ++ map Item.Lock (flat_map (λ u. part-told (Unit u) i) (in_order (keeps.units.units i)))

    pub beside-kept : IsBeside trace (beside_by s x)
    beside-kept = record {
      clash = clash-told;
      items = λ i. record { locks = locks-told i; bases = bases-told i };
      victim = victim-kept trace s.watch.dependencies (locks_in s.watch) x.sources p w keeps.watch.dependencies same (λ c known b. x.closes c b) ∙ ap (λ ws. victim_in s.watch.dependencies (locks_in s.watch) ws x.sources) keeps.watch.waits;
      served = served-kept trace (locks_in s.watch) same ∙ ap (served_in (locks_in s.watch)) keeps.watch.waits;
      due = release-from trace s.watch.dependencies p w keeps.watch.dependencies x.due x.are_due;
    }

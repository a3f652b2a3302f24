-- The right victim of units with different names is the one that the story's definitions compute.
use Rattle.law_states.specs.KeptWaits.{AreDistinct}
use Rattle.law_states.specs.PairClosures.{LeadsBack}
use Rattle.law_story.proofs.Lists.{In, in-filter, in-map, into-filter, into-map}
use Rattle.salt_model.specs.Waiting as story
use Rattle.salt_model.specs.Waiting.{is_on_cycle, names_of, victim_of}
use Rattle.salt_model.specs.Words.{greatest}
use Rattle.salt_values.specs.Id.{is_older}
use Rattle.salt_values.specs.declared.id.Id.{Id}
use Rattle.salt_waits.proofs.Ways.{from_in, into, leads_waits, waits_leads}
use Rattle.salt_waits.proofs.Greatest.{greatest_none, is_greatest, older_or_same}
use Rattle.salt_waits.specs.Victims.{IsOnCycle, IsRightVictim, IsVictim, graph_of, in_story}
use Rattle.salt_waits.specs.declared.units.WaitUnit.{WaitUnit}
use Rattle.std.specs.List.{filter}
use Rattle.std.specs.Option.{option_or}
use Rattle.std.proofs.Common.{Bool, IsTrue, List, None, Option, Some, ap, ap₂, false, map, refl, subst, sym, true, ◌↔◌, ◌≡◌, ◌∙◌}

module _ (rounds : (graph : List story.WaitUnit) (w : story.WaitUnit) → In w graph → IsTrue (is_on_cycle graph w) ↔ LeadsBack graph w)
    (list : List WaitUnit) (distinct : AreDistinct (map (λ (u : WaitUnit). u.unit) list)) where
  abbrev on : List story.WaitUnit
  on = filter (is_on_cycle (graph_of list)) (graph_of list)

  abbrev acid_on : List story.WaitUnit
  acid_on = filter (λ w. w.acid) on

  listed_on : (u : WaitUnit) → IsOnCycle list u → In (in_story u) on
  listed_on u cycle =
      let listed = into-map in_story u list (into list u cycle.listed) in
      into-filter (is_on_cycle (graph_of list)) (in_story u) (graph_of list) listed ((rounds (graph_of list) (in_story u) listed).1 (waits_leads list distinct cycle.back))

  on_listed : (w : story.WaitUnit) → In w on → (u : WaitUnit) × (in_story u ≡ w) × IsOnCycle list u
  on_listed w h =
      let kept = in-filter (is_on_cycle (graph_of list)) w (graph_of list) h in
      let u = in-map in_story w list kept.0 in
      let test = subst (λ x. is_on_cycle (graph_of list) x ≡ true) (sym u.2) kept.1 in
      let back = (rounds (graph_of list) (in_story u.0) (into-map in_story u.0 list u.1)).0 test in
      (u.0, u.2, record { listed = from_in list u.0 u.1; back = leads_waits list u.0 u.0 u.1 u.1 back.1 back.2 })

  on_named : (n : Id) → In n (names_of on) → (u : WaitUnit) × (u.unit ≡ n) × IsOnCycle list u
  on_named n h =
      let w = in-map (λ (w : story.WaitUnit). w.unit) n on h in
      let u = on_listed w.0 w.1 in
      (u.0, ap (λ (w : story.WaitUnit). w.unit) u.1 ∙ w.2, u.2)

  acid_named : (n : Id) → In n (names_of acid_on) → (u : WaitUnit) × (u.unit ≡ n) × IsOnCycle list u × (u.acid ≡ true)
  acid_named n h =
      let w = in-map (λ (w : story.WaitUnit). w.unit) n acid_on h in
      let kept = in-filter (λ (w : story.WaitUnit). w.acid) w.0 on w.1 in
      let u = on_listed w.0 kept.0 in
      (u.0, ap (λ (w : story.WaitUnit). w.unit) u.1 ∙ w.2, u.2, ap (λ (w : story.WaitUnit). w.acid) u.1 ∙ kept.1)

  name_on : (u : WaitUnit) → IsOnCycle list u → In u.unit (names_of on)
  name_on u cycle = into-map (λ (w : story.WaitUnit). w.unit) (in_story u) on (listed_on u cycle)

  name_acid : (u : WaitUnit) → IsOnCycle list u → u.acid ≡ true → In u.unit (names_of acid_on)
  name_acid u cycle acid = into-map (λ (w : story.WaitUnit). w.unit) (in_story u) acid_on (into-filter (λ (w : story.WaitUnit). w.acid) (in_story u) on (listed_on u cycle) acid)

  no_younger : (u v : WaitUnit) → IsVictim list u → IsOnCycle list v → v.acid ≡ u.acid → is_older u.unit v.unit ≡ false
  no_younger u v victim cycle same = older_or_same v.unit u.unit (victim.youngest v cycle same)

  of_acid : (u : WaitUnit) → IsVictim list u → u.acid ≡ true → victim_of (graph_of list) ≡ Some u.unit
  of_acid u victim acid =
      let found = is_greatest (names_of acid_on) u.unit (name_acid u victim.on_cycle acid)
      (λ m h. let v = acid_named m h in subst (λ x. is_older u.unit x ≡ false) v.1 (no_younger u v.0 victim v.2 (v.3 ∙ sym acid))) in
      ap (λ o. option_or o (greatest (names_of on))) found

  of_subtransaction : (u : WaitUnit) → IsVictim list u → u.acid ≡ false → victim_of (graph_of list) ≡ Some u.unit
  of_subtransaction u victim base =
      let none = greatest_none (names_of acid_on) (λ n h. let v = acid_named n h in not_acid u base (victim.acid_first v.0 v.2 v.3)) in
      let found = is_greatest (names_of on) u.unit (name_on u victim.on_cycle)
      (λ m h. let v = on_named m h in subst (λ x. is_older u.unit x ≡ false) v.1 (no_younger u v.0 victim v.2 (also_base u v.0 victim v.2 base))) in
      ap₂ option_or none found
    where
      not_acid : (u : WaitUnit) → u.acid ≡ false → IsTrue u.acid → ⊥
      not_acid u base acid = cc (base, acid)

      also_base : (u v : WaitUnit) → IsVictim list u → IsOnCycle list v → u.acid ≡ false → v.acid ≡ u.acid
      also_base u v victim cycle base = by v.acid (λ acid. victim.acid_first v cycle acid)
        where
          by : (b : Bool) → (b ≡ true → IsTrue u.acid) → b ≡ u.acid
          by true first = let acid = first refl in absurd (cc (base, acid))
          by false first = sym base

  pub fits : (found : Option Id) → IsRightVictim list found → victim_of (graph_of list) ≡ found
  fits None none = ap₂ option_or (greatest_none (names_of acid_on) (λ n h. let v = acid_named n h in none v.0 v.2)) (greatest_none (names_of on) (λ n h. let v = on_named n h in none v.0 v.2))
  fits (Some n) right = by right.0.acid refl ∙ ap Some right.1
    where
      by : (b : Bool) → right.0.acid ≡ b → victim_of (graph_of list) ≡ Some right.0.unit
      by true e = of_acid right.0 right.2 e
      by false e = of_subtransaction right.0 right.2 e

-- A program that is held back is not released, and so no chain of readers comes to it.
use Rattle.law_story.proofs.Hiding.{hides}
use Rattle.law_story.proofs.Lists.{In, either, has-in, in-cases, in-has, in-without}
use Rattle.law_story.proofs.Salted.{salted-played}
use Rattle.law_story.proofs.Sound.{freed-passed, named-bases}
use Rattle.law_story.proofs.Upheld.{OfBoots, holds, may-fit}
use Rattle.law_story.proofs.WellKept.{of-start}
use Rattle.salt_model.specs.Everywhere.{Each}
use Rattle.salt_model.specs.Isolation.{ReadsReleased, is_program_released}
use Rattle.salt_model.specs.Kept.{WellKept}
use Rattle.salt_model.specs.Played.{IsPlayed}
use Rattle.salt_model.specs.Programs.{freed_by, named_early, released_in}
use Rattle.salt_model.specs.Trace.{Trace, from, start_of, ◌asks◌, ◌says◌, ◌turns◌}
use Rattle.salt_model.specs.Units.{program_of}
use Rattle.salt_model.specs.declared.events.Event.{Event}
use Rattle.salt_model.specs.declared.events.Event.TheVariants.{Did, Early, Ready, Released}
use Rattle.salt_promise.specs.EarlyOpenings.{HidesHeldBack, held_back}
use Rattle.salt_values.specs.Id.{has_id}
use Rattle.salt_values.specs.declared.id.Id.{Id}
use Rattle.std.proofs.Common.{inl, inr, sym, ◌∙◌}
use Rattle.std.specs.List.{list_all}
use Rattle.std.specs.Option.{option_map_or}
use Rattle.std.specs.Prelude.{Bool, List, None, Option, Some, [], false, not, refl, true, ◌&&◌, ◌∷◌, ◌≡◌}

-- what is held back is named
held-named : (trace : Trace) (b : Id) → In b (held_back trace) → In b (named_early trace)
held-named (from k) b h = h
held-named (trace asks asked) b h = held-named trace b h
held-named (trace turns c) b h = held-named trace b h
held-named (trace says Early bs) b h = h
held-named (trace says Released bs) b h = held-named trace b (in-without b bs (held_back trace) h).0
held-named (trace says Ready) b h = absurd h
held-named (trace says e) b h = held-named trace b h

not-released : (trace : Trace) → IsPlayed trace → OfBoots (start_of trace).kept → (b : Id) → In b (held_back trace) → In b (released_in trace) → ⊥
not-released (from k) p w b h r = h
not-released (trace asks asked) p w b h r = not-released trace p.0 w b h r
not-released (trace turns c) p w b h r = not-released trace p.0 w b h r
not-released (trace says Early bs) p w b h r =
    let u = holds trace p.0 w in
    u.sound.goes_on b (named-bases trace bs (may-fit trace (Early bs) u.comes p.1) b h) (inr (inl r))
not-released (trace says Released bs) p w b h r =
    let old = in-without b bs (held_back trace) h in
    either (λ i. (hides trace p.0 w).unpassed b (held-named trace b old.0) (freed-passed bs trace b i))
    (λ i. either (λ j. not-released trace p.0 w b old.0 j) (λ j. let x : true ≡ false = sym (in-has b bs j) ∙ old.1 in cc) (in-cases b (released_in trace) bs i))
    (in-cases b (freed_by bs trace) _ r)
not-released (trace says Ready) p w b h r = h
not-released (trace says e) p w b h r = not-released trace p.0 w b h r

pub unreleased : (trace : Trace) → IsPlayed trace → WellKept (start_of trace).kept → (b : Id) → has_id b (held_back trace) ≡ true → has_id b (released_in trace) ≡ false
unreleased trace p w b h = go (has_id b (released_in trace)) refl
  where
    go : (t : Bool) → has_id b (released_in trace) ≡ t → t ≡ false
    go false e = refl
    go true e = absurd (not-released trace p (of-start (start_of trace).kept w) b (has-in b (held_back trace) h) (has-in b (released_in trace) e))

-- chains

abbrev AreUnreleased : Trace → Type 0
AreUnreleased trace = (b : Id) → has_id b (held_back trace) ≡ true → has_id b (released_in trace) ≡ false

part-hidden : (trace : Trace) (o : Option Id) → AreUnreleased trace → is_program_released trace o ≡ true → option_map_or (λ b. has_id b (held_back trace)) o false ≡ false
part-hidden trace None h r = refl
part-hidden trace (Some b) h r = go (has_id b (held_back trace)) refl
  where
    go : (t : Bool) → has_id b (held_back trace) ≡ t → t ≡ false
    go false e = refl
    go true e = let x : true ≡ false = sym r ∙ h b e in cc

chain-hidden : (trace : Trace) (chain : List Id) → AreUnreleased trace → list_all (λ u. is_program_released trace (program_of u trace)) chain ≡ true →
    list_all (λ u. not (option_map_or (λ b. has_id b (held_back trace)) (program_of u trace) false)) chain ≡ true
chain-hidden trace [] h r = refl
chain-hidden trace (u ∷ us) h r = go (is_program_released trace (program_of u trace)) refl r (chain-hidden trace us h)
  where
    go : (t : Bool) → is_program_released trace (program_of u trace) ≡ t → (t && list_all (λ v. is_program_released trace (program_of v trace)) us) ≡ true →
        (list_all (λ v. is_program_released trace (program_of v trace)) us ≡ true → list_all (λ v. not (option_map_or (λ b. has_id b (held_back trace)) (program_of v trace) false)) us ≡ true) →
        list_all (λ v. not (option_map_or (λ b. has_id b (held_back trace)) (program_of v trace) false)) (u ∷ us) ≡ true
    go true e g more = rw (part-hidden trace (program_of u trace) h e) (more g)
    go false e g more = cc

hidden-at : (trace : Trace) (e : Event) → AreUnreleased trace → ReadsReleased trace e → HidesHeldBack trace e
hidden-at trace (Did a st answer) h r = λ acid chain c. chain-hidden trace chain h (r acid chain c)
hidden-at trace e h r = tt

hidden-by : (trace : Trace) → IsPlayed trace → WellKept (start_of trace).kept → Each ReadsReleased trace → Each HidesHeldBack trace
hidden-by (from k) p w r = tt
hidden-by (trace asks asked) p w r = hidden-by trace p.0 w r
hidden-by (trace turns b) p w r = hidden-by trace p.0 w r
hidden-by (trace says e) p w r = (hidden-by trace p.0 w r.0, hidden-at trace e (unreleased trace p.0 w) r.1)

pub hidden : (trace : Trace) → IsPlayed trace → WellKept (start_of trace).kept → Each HidesHeldBack trace
hidden trace p w = hidden-by trace p w (salted-played trace p (of-start (start_of trace).kept w) w.defined)

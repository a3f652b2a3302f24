-- At a start each program is called by the name that its continuation keeps: no two continuations are of one program.
use Rattle.law_story.proofs.Ids.{is_same_id-refl, is_same_id-sym}
use Rattle.law_story.specs.ContNames.{AreNamed}
use Rattle.salt_model.specs.Kept.{cont_in}
use Rattle.salt_model.specs.Trace.{Start, from}
use Rattle.salt_model.specs.Words.{Every}
use Rattle.salt_stands.proofs.Booleans.{left, right}
use Rattle.salt_stands.specs.OpenConts.{do_rise, is_later_than, is_not_of}
use Rattle.salt_values.specs.Id.{is_same_id}
use Rattle.salt_values.specs.declared.cont.Cont.{Cont}
use Rattle.salt_values.specs.declared.id.Id.{Id}
use Rattle.std.proofs.Common.{ap, ◌∙◌}
use Rattle.std.specs.List.{list_all}
use Rattle.std.specs.Prelude.{Bool, List, None, Option, Some, [], false, nat_lt, not, refl, true, ℕ, ◌∷◌, ◌≡◌}

abbrev name_in : Id → List Cont → List ℕ
name_in b cs = elim (cont_in b cs) [ None ↦ [] | Some c ↦ c.program ]

not-true : (b : Bool) → not b ≡ true → b ≡ false
not-true true h = cc
not-true false h = refl

-- one of another program is not looked at

looks-on : (c d : Cont) (cs : List Cont) → is_later_than c d ≡ true → cont_in d.base (c ∷ cs) ≡ cont_in d.base cs
looks-on c d cs later = rw (is_same_id-sym d.base c.base ∙ not-true (is_same_id c.base d.base) (right (nat_lt c.accepted d.accepted) (is_not_of c.base d) later)) refl

passed : (c d : Cont) (cs : List Cont) → is_later_than c d ≡ true → name_in d.base (c ∷ cs) ≡ name_in d.base cs
passed c d cs later = ap (λ (o : Option Cont). elim o [ None ↦ [] | Some e ↦ e.program ]) (looks-on c d cs later)

all-passed : (c : Cont) (ds cs : List Cont) → list_all (is_later_than c) ds ≡ true → Every (λ (d : Cont). name_in d.base cs ≡ d.program) ds →
    Every (λ (d : Cont). name_in d.base (c ∷ cs) ≡ d.program) ds
all-passed c [] cs later named = tt
all-passed c (d ∷ ds) cs later named = (
  passed c d cs (left (is_later_than c d) (list_all (is_later_than c) ds) later) ∙ named.0,
  all-passed c ds cs (right (is_later_than c d) (list_all (is_later_than c) ds) later) named.1,
)

looks-first : (c : Cont) (cs : List Cont) → cont_in c.base (c ∷ cs) ≡ Some c
looks-first c cs = rw (is_same_id-refl c.base) refl

first-found : (c : Cont) (cs : List Cont) → name_in c.base (c ∷ cs) ≡ c.program
first-found c cs = ap (λ (o : Option Cont). elim o [ None ↦ [] | Some e ↦ e.program ]) (looks-first c cs)

names-own : (cs : List Cont) → do_rise cs ≡ true → Every (λ (c : Cont). name_in c.base cs ≡ c.program) cs
names-own [] rise = tt
names-own (c ∷ cs) rise =
    (first-found c cs, all-passed c cs cs (left (list_all (is_later_than c) cs) (do_rise cs) rise) (names-own cs (right (list_all (is_later_than c) cs) (do_rise cs) rise)))

pub start-names : (start : Start) → do_rise start.kept.conts ≡ true → AreNamed (from start)
start-names start rise = names-own start.kept.conts rise

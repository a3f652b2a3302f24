-- Why `MeetsNothing` speaks of the command's own lines. Behind a whole segment any line may be asked: also a definition for which no device
-- has room. So no room is left behind each trace that tells a story, whatever the run.
use Rattle.salt_ast.specs.Texts.{columns_text, expr_text, preceded, table_text}
use Rattle.salt_ast.specs.declared.lines.Line.TheVariants.{Table}
use Rattle.salt_ast.specs.declared.trees.ColType.TheVariants as kind
use Rattle.salt_ast.specs.declared.trees.TableDef.{TableDef}
use Rattle.salt_bytes.specs.Coordinator.{Boots, Defines, spell_entry, spell_header, spell_numbered, spell_text}
use Rattle.salt_bytes.specs.Numbers.{spell_64}
use Rattle.salt_bytes.specs.Generations.{Counts, LogA}
use Rattle.salt_bytes.specs.Log.{entries_in, entries_up_to, framed, spelled, split_payload}
use Rattle.salt_model.specs.Computing.{computing}
use Rattle.salt_model.specs.Next.{next}
use Rattle.salt_model.specs.Phases.{Serving}
use Rattle.salt_model.specs.Played.{Tells}
use Rattle.salt_model.specs.Trace.{Trace, Tree, ◌asks◌}
use Rattle.salt_model.specs.declared.events.Event.TheVariants.{Defined}
use Rattle.salt_promise.proofs.OneLine.{complete, played, start, trace}
use Rattle.salt_promise.specs.Filling.{EntryFills, IsFullBehind, NextFills}
use Rattle.salt_promise.specs.Worked.{after, header_at, one_line, one_part, opened}
use Rattle.salt_stands.specs.Coordinator.{coordinator_pair}
use Rattle.salt_stands.specs.CoordinatorLog.{CoordinatorLog}
use Rattle.salt_stands.specs.Stands.{logs_of}
use Rattle.std.proofs.Common.{ap, arith, inl, length-append, subst, sym}
use Rattle.std.specs.Prelude.{List, Some, [], codes, false, length, refl, suc, zero, ℕ, ◌+◌, ◌++◌, ◌<◌, ◌∷◌, ◌≡◌}

many : ℕ → List ℕ
many zero = []
many (suc n) = 97 ∷ many n

many-length : (n : ℕ) → length (many n) ≡ n
unfolding many
many-length zero = refl
many-length (suc n) = ap suc (many-length n)

abbrev table : List ℕ → TableDef
table name = record { name = name; columns = record { name = codes "id"; kind = kind.Int; nullable = false } ∷ []; checks = [] }

abbrev asked : List ℕ → Trace
asked name = trace asks Tree (Table (table name))

comes : (name : List ℕ) → next (asked name) ≡ Some (Defined 1 (table_text (table name)))
unfolding computing
comes name = refl

tells : (name : List ℕ) → Tells start (asked name) one_line.story
tells name = record { begins = refl; told = refl; played = (played, complete) }

abbrev log : CoordinatorLog
log = record { header = header_at 0; told = record { boot = 1; decisions = 0; definitions = []; decided = [] } }

counts : coordinator_pair (logs_of opened) ≡ Counts LogA log
unfolding entries_in entries_up_to split_payload framed
counts = refl

reads : entries_in (opened 0) ≡ Some (spell_header (header_at 0) ∷ spell_entry (Boots 1) ∷ [])
unfolding entries_in entries_up_to split_payload framed
reads = refl

-- the text of a definition is longer than its name, and so is its entry
by-parts : (a name b : List ℕ) (n : ℕ) → n < length name → n < length (a ++ (name ++ b))
by-parts a name b n h = omega (arith, h, length-append a (name ++ b), length-append name b)

longer : (a b : List ℕ) (n : ℕ) → n < length b → n < length (a ++ b)
longer a b n h = omega (arith, h, length-append a b)

one-more : (a : ℕ) (b : List ℕ) (n : ℕ) → n < length b → n < length (a ∷ b)
one-more a b n h = omega arith

more : (a b : List ℕ) → 67108864 < length b → 67108864 < length a + 10 + length b
more a b h = omega arith

-- what stands behind the name
abbrev behind : List ℕ → List ℕ
behind name = codes " (" ++ (columns_text (table name).columns ++ (preceded (codes ", check ") expr_text (table name).checks ++ codes ")"))

fills : (name : List ℕ) → 67108864 < length name → EntryFills after.devices (λ (log : CoordinatorLog). Defines (record { number = log.told.decisions + 1; text = table_text (table name) })) 0
fills name h = record {
  which = LogA;
  log = log;
  counts = counts;
  device = refl;
  over = record { entries = spell_header (header_at 0) ∷ spell_entry (Boots 1) ∷ []; reads = reads; over = over };
}
  where
    over : 67108864 < length (spelled (spell_header (header_at 0) ∷ spell_entry (Boots 1) ∷ [])) + 10 + length (spell_entry (Defines (record { number = 1; text = table_text (table name) })))
    over = more (spelled (spell_header (header_at 0) ∷ spell_entry (Boots 1) ∷ [])) (spell_entry (Defines (record { number = 1; text = table_text (table name) })))
        (one-more 2 (spell_numbered (record { number = 1; text = table_text (table name) })) 67108864
        (longer (spell_64 1) (spell_text (table_text (table name))) 67108864
        (longer (spell_64 (length (table_text (table name)))) (table_text (table name)) 67108864
        (by-parts (codes "create table ") name (behind name) 67108864 h))))

-- so there is no room behind each trace that tells what `one_line` told, though nothing came in its way
no-room : ((t : Trace) (dev : ℕ) → Tells start t one_line.story → IsFullBehind after.devices one_part t dev → ⊥) → ⊥
no-room never = never (asked (many 67108865)) 0 (tells (many 67108865)) (subst (λ e. NextFills after.devices one_part (asked (many 67108865)) Serving e 0) (sym (comes (many 67108865))) (inl (fills (many 67108865) (subst (λ n. 67108864 < n) (sym (many-length 67108865)) (omega arith)))))

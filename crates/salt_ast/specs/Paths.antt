-- The path of a program: its blocks, where it goes on behind each part, and how many statements may still run.
use Rattle.std.specs.Bool.{then_some}
use Rattle.salt_ast.specs.declared.programs.Body.{Body}
use Rattle.salt_ast.specs.declared.programs.Body.TheVariants as body
use Rattle.salt_ast.specs.declared.programs.Next.{Next}
use Rattle.salt_ast.specs.declared.programs.Next.TheVariants as next
use Rattle.salt_ast.specs.declared.programs.PartDef.{PartDef}
use Rattle.salt_ast.specs.declared.trees.Statement.{Statement}
use Rattle.std.specs.Prelude.{List, None, Option, Some, [], if◌then◌else◌, length, map, max, nat_lt, option_and_then, option_map}
use Rattle.std.specs.Prelude.{suc, unwrap_or, zero, ℕ, ◌+◌, ◌++◌, ◌==◌, ◌∷◌}
use Rattle.std.specs.Option.{option_map_or}

-- Parts are numbered from 1. The block of a part is what its unit does; the whole of an ACID program is one unit.

abbrev pub part_block : PartDef → List Statement
part_block p = p.block

abbrev pub blocks : Body → List (List Statement)
blocks (body.Acid block) = block ∷ []
blocks (body.Base parts) = map part_block parts

-- the statements of all blocks, in the order of the text
abbrev pub statements_in : List (List Statement) → List Statement
statements_in [] = []
statements_in (block ∷ bs) = block ++ statements_in bs

abbrev pub body_statements : Body → List Statement
body_statements b = statements_in (blocks b)

-- what stands at this place, counted from 1
abbrev pub at_number : {A : Type 0} → ℕ → List A → Option A
at_number k [] = None
at_number zero (x ∷ xs) = None
at_number (suc zero) (x ∷ xs) = Some x
at_number (suc (suc k)) (x ∷ xs) = at_number (suc k) xs

-- WAYS. A way leads to a part, or to the end, which is no part. A program stands at a part, with tries of it left.

pub record Position : Type 0 where
  pub part : ℕ
  pub tries : ℕ

-- how often a part is tried again: never, where it isn't said
abbrev pub retries : Option PartDef → ℕ
retries p = unwrap_or (option_and_then (λ part. part.retry) p) 0

-- where a program is that comes to this part by a way
abbrev pub position_at : List PartDef → ℕ → Position
position_at parts k = record { part = k; tries = retries (at_number k parts) }

abbrev pub part_of_next : Next → Option ℕ
part_of_next (next.Part k) = Some k
part_of_next next.End = None

-- the way of part `k` of `count` parts behind its commit: by default the part that follows, or the end behind the last
abbrev pub way_on_commit : (count k : ℕ) → Option Next → Option ℕ
way_on_commit count k None = then_some (nat_lt k count) (suc k)
way_on_commit count k (Some n) = part_of_next n

-- the way behind a failure, which each part but the first declares
abbrev pub way_on_failure : Option Next → Option ℕ
way_on_failure way = option_and_then part_of_next way

-- where a program of these parts goes on behind the commit of part `k`: none is the end
abbrev pub next_on_commit : List PartDef → ℕ → Option Position
next_on_commit parts k =
    option_map (position_at parts) (option_and_then (λ p. way_on_commit (length parts) k p.then) (at_number k parts))

-- where it goes on by the branch of part `k`, which is above 1: none is the end
abbrev pub next_on_branch : List PartDef → ℕ → Option Position
next_on_branch parts k = option_map (position_at parts) (option_and_then (λ p. way_on_failure p.on_failure) (at_number k parts))

-- where it goes on behind a failure of part `k` with so many tries left: at the same part with one fewer, or else by its branch
abbrev pub next_on_failure : List PartDef → (k tries : ℕ) → Option Position
next_on_failure parts k zero = next_on_branch parts k
next_on_failure parts k (suc tries) = Some (record { part = k; tries = tries })

-- REST: how many statements may still run from a way on, at most.

-- what is told of the parts behind one, from the nearest on: a part's number and its rest
pub record Rest : Type 0 where
  pub part : ℕ
  pub statements : ℕ

-- the end has none, and no part is before the one that it is told behind
abbrev pub rest_among : List Rest → Option ℕ → ℕ
rest_among rs None = 0
rest_among [] (Some k) = 0
rest_among (r ∷ rs) (Some k) = if r.part == k then r.statements else rest_among rs (Some k)

-- the statements of part `k` with so many tries left, and the greater rest behind its commit and its failure
abbrev pub part_rest : (count k : ℕ) → PartDef → (tries : ℕ) → List Rest → ℕ
part_rest count k p zero behind =
    length p.block + max (rest_among behind (way_on_commit count k p.then)) (rest_among behind (way_on_failure p.on_failure))
part_rest count k p (suc tries) behind =
    length p.block + max (rest_among behind (way_on_commit count k p.then)) (part_rest count k p tries behind)

abbrev pub with_rest : (count k : ℕ) → PartDef → List Rest → List Rest
with_rest count k p behind = record { part = k; statements = part_rest count k p (retries (Some p)) behind } ∷ behind

-- the rests of these parts, the first of which is part `k`
abbrev pub rests : (count k : ℕ) → List PartDef → List Rest
rests count k [] = []
rests count k (p ∷ ps) = with_rest count k p (rests count (suc k) ps)

-- from this position on, among these of `count` parts, the first of which is part `k`
abbrev pub rest_from : (count k : ℕ) → List PartDef → Position → ℕ
rest_from count k [] at = 0
rest_from count k (p ∷ ps) at =
    if at.part == k then part_rest count k p at.tries (rests count (suc k) ps) else rest_from count (suc k) ps at

-- from a position on, or from the end
abbrev pub rest_of : List PartDef → Option Position → ℕ
rest_of parts at = option_map_or (rest_from (length parts) 1 parts) at 0

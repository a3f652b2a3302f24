-- The text of each form of an event, with numbers and texts at their ends.
use Rattle.salt_ast.specs.Sample.{acct, all_rows, bal}
use Rattle.salt_ast.specs.Trees.{letters, number, operation}
use Rattle.salt_ast.specs.declared.limit.LimitName.TheVariants as limit
use Rattle.salt_ast.specs.declared.trees.Expr.{Variable}
use Rattle.salt_ast.specs.declared.trees.Op.TheVariants as op
use Rattle.salt_ast.specs.declared.trees.Statement.TheVariants as statement
use Rattle.salt_ast.specs.declared.trees.Statement.{Statement}
use Rattle.salt_ast.specs.declared.trees.TableDef.{TableDef}
use Rattle.salt_ast.specs.declared.trees.What.TheVariants as what
use Rattle.salt_ast.specs.declared.trees.What.{What}
use Rattle.salt_model.specs.EventTexts.{event_text}
use Rattle.salt_model.specs.declared.events.Answer.TheVariants as answer
use Rattle.salt_model.specs.declared.events.Answer.{Answer}
use Rattle.salt_model.specs.declared.events.Cause.TheVariants as cause
use Rattle.salt_model.specs.declared.events.End.TheVariants as end
use Rattle.salt_model.specs.declared.events.End.{End}
use Rattle.salt_model.specs.declared.events.Event.TheVariants as event
use Rattle.salt_model.specs.declared.events.Event.{Event}
use Rattle.salt_model.specs.declared.events.Owner.TheVariants as owner
use Rattle.salt_model.specs.declared.events.Owner.{Owner}
use Rattle.salt_model.specs.declared.events.Refusal.TheVariants as refused
use Rattle.salt_model.specs.declared.events.UnitKind.TheVariants as kind
use Rattle.salt_model.specs.declared.events.Why.TheVariants as why
use Rattle.salt_model.specs.declared.locks.Family.TheVariants as family
use Rattle.salt_model.specs.declared.locks.Family.{Family}
use Rattle.salt_model.specs.declared.locks.Mode.TheVariants as mode
use Rattle.salt_model.specs.declared.locks.Mode.{Mode}
use Rattle.salt_model.specs.declared.shown.BaseAt.TheVariants as place
use Rattle.salt_model.specs.declared.shown.BaseAt.{BaseAt}
use Rattle.salt_model.specs.declared.shown.Item.TheVariants as item
use Rattle.salt_model.specs.declared.shown.Item.{Item}
use Rattle.salt_ranges.specs.declared.range.KeyRange.{KeyRange}
use Rattle.salt_values.specs.declared.id.Id.{Id}
use Rattle.std.specs.Fmt.{digits}
use Rattle.std.specs.Prelude.{List, None, Some, [], codes, map, neg_ℤ, pos, refl, ℕ, ◌++◌, ◌-◌, ◌^◌, ◌∷◌, ◌≡◌}
use Rattle.rows_texts.specs.Keys.{all, at, below_0, from, from_to, least, up_to, word}

-- tables `acct` and `w`, with no columns: only their names are printed
abbrev named : List ℕ → TableDef
named name = record { name = name; columns = []; checks = [] }

abbrev schema : List TableDef
schema = named acct ∷ named (codes "w") ∷ []

abbrev id : (boot seq : ℕ) → Id
id boot seq = record { boot = boot; seq = seq }

abbrev largest : ℕ
largest = 2 ^ 64 - 1

-- an event, and its lines without the LF that ends the last of them
record Row : Type 0 where
  pub told : Event
  pub line : List ℕ

abbrev is : Event → List ℕ → Row
is told line = record { told = told; line = line }

abbrev TextsAre : List Row → Type 0
TextsAre rows = map (λ (r : Row). event_text schema r.told) rows ≡ map (λ (r : Row). r.line ++ 10 ∷ []) rows

-- ---- units that begin

abbrev begins : List Row
begins =
    is (event.Began (id 1 1) (kind.Acid 1)) (codes "u1.1 began @1")
    ∷ is (event.Began (id 30 largest) (kind.Call 64 (codes "p") (at 1 ∷ word (codes "a") ∷ [])))
    (codes "u30.18446744073709551615 began @64 call p(1, 'a')")
    ∷ is (event.Began (id 1 1) (kind.First 2 (id 1 1) (codes "pay") [])) (codes "u1.1 began @2 b1.1 part 1 of pay()")
    ∷ is (event.Began (id 1 2) (kind.Later (id 1 1) 32)) (codes "u1.2 began b1.1 part 32")
    ∷ []

units_that_begin : TextsAre begins
unfolding digits
units_that_begin = refl

-- ---- units that end

abbrev ended : End → List ℕ → Row
ended how line = is (event.Ended (id 1 1) how) line

abbrev ends : List Row
ends =
    ended (end.Committed largest) (codes "u1.1 committed 18446744073709551615")
    ∷ ended (end.Failed cause.Duplicate) (codes "u1.1 failed duplicate")
    ∷ ended (end.Failed cause.Check) (codes "u1.1 failed check")
    ∷ ended (end.Failed cause.Missing) (codes "u1.1 failed missing")
    ∷ ended (end.Failed cause.Ensure) (codes "u1.1 failed ensure")
    ∷ ended (end.Failed cause.Overflow) (codes "u1.1 failed overflow")
    ∷ ended (end.Failed cause.TooLong) (codes "u1.1 failed toolong")
    ∷ ended (end.Branched 5 cause.Missing) (codes "u1.1 branched 5 missing")
    ∷ ended end.RolledBack (codes "u1.1 rolled back")
    ∷ ended end.Victim (codes "u1.1 victim")
    ∷ ended end.Cut (codes "u1.1 cut")
    ∷ []

units_that_end : TextsAre ends
unfolding digits
units_that_end = refl

-- ---- statements and their answers

abbrev did : Statement → Answer → List ℕ → Row
did st told line = is (event.Did (id 1 2) st told) line

abbrev select : What → Statement
select shown = statement.Select shown acct all_rows

abbrev ensure : Statement
ensure = statement.Ensure (operation op.AtLeast (Variable (codes "x")) (number (pos 0)))

abbrev answers : List Row
answers =
    did (statement.Insert acct (number (neg_ℤ (pos 5)) ∷ letters (codes "it's") ∷ [])) (answer.Count 1)
    (codes "u1.2 did insert into acct values (-5, 'it''s') -> count 1")
    ∷ did (select what.All) (answer.Rows ((least ∷ word (codes "a'b''") ∷ []) ∷ (at 0 ∷ word [] ∷ []) ∷ []))
    (codes "u1.2 did select * from acct -> rows (-9223372036854775808, 'a''b''''') (0, '')")
    ∷ did (select what.All) (answer.Rows []) (codes "u1.2 did select * from acct -> rows")
    ∷ did (select what.Count) (answer.Cell (Some (at 7))) (codes "u1.2 did select count(*) from acct -> value 7")
    ∷ did (select (what.Min (codes "n"))) (answer.Cell (Some (word (codes "'")))) (codes "u1.2 did select min(n) from acct -> value ''''")
    ∷ did (select (what.Max (codes "n"))) (answer.Cell None) (codes "u1.2 did select max(n) from acct -> value none")
    ∷ did (statement.SelectInto bal (codes "x") acct (number (pos 1))) (answer.Stored (below_0 1))
    (codes "u1.2 did select bal into :x from acct where key = 1 -> stored -1")
    ∷ did ensure answer.Held (codes "u1.2 did ensure (:x >= 0) -> true")
    ∷ did ensure (answer.Failed cause.Ensure) (codes "u1.2 did ensure (:x >= 0) -> failed ensure")
    ∷ []

statements_and_their_answers : TextsAre answers
unfolding digits
statements_and_their_answers = refl

-- ---- waits, programs, openings and definitions

abbrev others : List Row
others =
    is (event.Waits (id 1 2) (owner.Unit (id 1 1) ∷ owner.Base (id 1 1) ∷ [])) (codes "u1.2 waits u1.1 b1.1")
    ∷ is (event.Accepted (id 1 1)) (codes "b1.1 accepted")
    ∷ is (event.Finished (id 30 largest)) (codes "b30.18446744073709551615 finished")
    ∷ is (event.Released (id 1 1 ∷ id 1 2 ∷ [])) (codes "released b1.1 b1.2")
    ∷ is (event.Down why.Stopped) (codes "down stopped")
    ∷ is (event.Down why.Fault) (codes "down fault")
    ∷ is (event.Opened 1 0) (codes "opened 1 0")
    ∷ is event.Ready (codes "ready")
    ∷ is (event.Early (id 1 1 ∷ id 1 2 ∷ [])) (codes "early b1.1 b1.2")
    ∷ is (event.Early (id 30 largest ∷ [])) (codes "early b30.18446744073709551615")
    ∷ is (event.Defined 10 (codes "create table t (k int key)")) (codes "defined 10 create table t (k int key)")
    ∷ is (event.Armed ((1, 0) ∷ (1000000, 4) ∷ [])) (codes "armed 1 0 1000000 4")
    ∷ is (event.Armed ((1, 0) ∷ (2, 1) ∷ (3, 2) ∷ [])) (codes "armed 1 0 2 1 3 2")
    ∷ []

waits_programs_and_openings : TextsAre others
unfolding digits
waits_programs_and_openings = refl

-- ---- lines that are refused

abbrev refusals : List Row
refusals =
    is (event.Refused refused.Long) (codes "refused 1 long")
    ∷ is (event.Refused refused.Byte) (codes "refused 2 byte")
    ∷ is (event.Refused refused.Syntax) (codes "refused 3 syntax")
    ∷ is (event.Refused (refused.Unknown (codes "x_1"))) (codes "refused 5 unknown x_1")
    ∷ is (event.Refused (refused.Exists acct)) (codes "refused 6 exists acct")
    ∷ is (event.Refused refused.Mistyped) (codes "refused 7 type")
    ∷ is (event.Refused (refused.Branch 32)) (codes "refused 8 branch 32")
    ∷ is (event.Refused refused.State) (codes "refused 9 state")
    ∷ is (event.Refused refused.Busy) (codes "refused 10 busy")
    ∷ []

lines_that_are_refused : TextsAre refusals
unfolding digits
lines_that_are_refused = refl

abbrev limits : List Row
limits =
    is (event.Refused (refused.Limit limit.Session)) (codes "refused 4 limit session")
    ∷ is (event.Refused (refused.Limit limit.Name)) (codes "refused 4 limit name")
    ∷ is (event.Refused (refused.Limit limit.Number)) (codes "refused 4 limit number")
    ∷ is (event.Refused (refused.Limit limit.Text)) (codes "refused 4 limit text")
    ∷ is (event.Refused (refused.Limit limit.Tables)) (codes "refused 4 limit tables")
    ∷ is (event.Refused (refused.Limit limit.Columns)) (codes "refused 4 limit columns")
    ∷ is (event.Refused (refused.Limit limit.Checks)) (codes "refused 4 limit checks")
    ∷ is (event.Refused (refused.Limit limit.Programs)) (codes "refused 4 limit programs")
    ∷ is (event.Refused (refused.Limit limit.Parts)) (codes "refused 4 limit parts")
    ∷ is (event.Refused (refused.Limit limit.Retry)) (codes "refused 4 limit retry")
    ∷ is (event.Refused (refused.Limit limit.Statements)) (codes "refused 4 limit statements")
    ∷ is (event.Refused (refused.Limit limit.Parameters)) (codes "refused 4 limit parameters")
    ∷ is (event.Refused (refused.Limit limit.Variables)) (codes "refused 4 limit variables")
    ∷ is (event.Refused (refused.Limit limit.Depth)) (codes "refused 4 limit depth")
    ∷ is (event.Refused (refused.Limit limit.Crash)) (codes "refused 4 limit crash")
    ∷ is (event.Refused (refused.Limit limit.Pick)) (codes "refused 4 limit pick")
    ∷ is (event.Refused (refused.Limit limit.Pairs)) (codes "refused 4 limit pairs")
    ∷ is (event.Refused (refused.Limit limit.Net)) (codes "refused 4 limit net")
    ∷ is (event.Refused (refused.Limit limit.Act)) (codes "refused 4 limit act")
    ∷ is (event.Refused (refused.Limit limit.Bases)) (codes "refused 4 limit bases")
    ∷ []

limits_that_are_passed : TextsAre limits
limits_that_are_passed = refl

-- ---- what is shown

abbrev lock : Owner → Family → Mode → (table : ℕ) → KeyRange → Item
lock by how to table range = item.Lock (record { owner = by; family = how; mode = to; table = table; range = range })

-- table 2 is not in the schema
abbrev locks : List Item
locks =
    lock (owner.Base (id 1 1)) family.Saline mode.Write 1 (from_to (below_0 1) (at 3))
    ∷ lock (owner.Unit (id 1 1)) family.Acid mode.Read 0 (from_to (word (codes "a'")) (word (codes "b")))
    ∷ lock (owner.Unit (id 1 2)) family.Alkaline mode.Write 0 all
    ∷ lock (owner.Unit (id 1 2)) family.Alkaline mode.Read 2 (from (at 0))
    ∷ lock (owner.Unit (id 1 2)) family.Alkaline mode.Read 2 (up_to (at 0))
    ∷ []

abbrev base : BaseAt → Item
base stands = item.Base (id 1 1) (codes "p") stands

abbrev bases : List Item
bases = base place.First ∷ base (place.Next 2) ∷ base place.Finished ∷ []

abbrev shown : List Row
shown =
    is (event.Shown locks)
    (codes "lock b1.1 saline write w -1..3" ++
    (10 ∷ codes "lock u1.1 acid read acct 'a'''..'b'" ++
    (10 ∷ codes "lock u1.2 alkaline write acct all" ++
    (10 ∷ codes "lock u1.2 alkaline read  all" ++ (10 ∷ codes "lock u1.2 alkaline read  all" ++ (10 ∷ codes "shown 5"))))))
    ∷ is (event.Shown bases)
    (codes "base b1.1 p first" ++ (10 ∷ codes "base b1.1 p next 2" ++ (10 ∷ codes "base b1.1 p finished" ++ (10 ∷ codes "shown 3"))))
    ∷ is (event.Shown []) (codes "shown 0")
    ∷ []

what_is_shown : TextsAre shown
unfolding digits
what_is_shown = refl

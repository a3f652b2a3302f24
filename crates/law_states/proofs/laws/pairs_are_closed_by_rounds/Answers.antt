use Rattle.law_states.proofs.PairLists.{all_sources-exact, due_in-exact}
use Rattle.law_states.proofs.laws.pairs_are_closed_by_rounds.Goals as goal

pub returns : goal.returns
returns c = record { sources = all_sources-exact; due = due_in-exact }

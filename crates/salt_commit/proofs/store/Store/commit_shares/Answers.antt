use Rattle.salt_bytes.specs.Coordinator.{Decides, spell_entry}
use Rattle.salt_commit.proofs.Committed.{answer_is, behind, between, committed, decided_image, decision_full, decision_untouched, few_shares, mask_within, may_tell, may_vote, may_vote_as, no_log_pages, share_each, share_log, told_full, told_image, undecided_image, votes_full, wider_decision, wider_told, wider_votes}
use Rattle.salt_commit.proofs.Fields.{shown}
use Rattle.salt_commit.proofs.Undecided.{IsInHand}
use Rattle.salt_commit.proofs.Voters.{nodes_are}
use Rattle.salt_commit.proofs.store.Store.commit_shares.Goals as goal
use Rattle.salt_commit.specs.Commits.{IsCommitDevice, IsCommitLog, StandsToCommit, UnitPassesLimit, shares_in}
use Rattle.salt_commit.specs.Messages.{IsAtRest, IsNewIn, net_of, nodes_of}
use Rattle.salt_commit.specs.Shares.{mask_of, next_decision, shares_of}
use Rattle.salt_commit.specs.Stores.{IsStore, decided_by, last_decision, reading, shape_of_store}
use Rattle.salt_commit.specs.Telling.{HaveStarted, HaveTold, IsBehind, MayTell}
use Rattle.salt_commit.specs.Voting.{VotesPassLimit}
use Rattle.salt_commit.specs.declared.store.Store.{Store}
use Rattle.salt_decisions.specs.Decisions as decisions
use Rattle.salt_decisions.specs.Decisions.{IsBeforeOrWith, IsDecisions, decided}
use Rattle.salt_disk.proofs.CallAfterCall.{cause_on}
use Rattle.salt_disk.specs.Disks.{EachImage, FullExactly, FullWhere, KeepsBut}
use Rattle.salt_disk.specs.declared.disks.DiskErr.TheVariants.{Full}
use Rattle.salt_disk.specs.declared.disks.DiskErr.{DiskErr}
use Rattle.salt_net.specs.Turns.{commits}
use Rattle.salt_parts.specs.Openings.{IsPagesOf}
use Rattle.salt_place.specs.declared.placement.Shape.{Shape}
use Rattle.salt_shares.specs.Prepares.{with_shares}
use Rattle.salt_stands.specs.Coordinator.{device_of}
use Rattle.salt_stands.specs.Placed.{nodes_in}
use Rattle.std.proofs.Common.{Err, None, Some, ap, arith, inl, length, refl, subst, sym, ◌+◌, ◌<◌, ◌^◌, ◌≡◌, ◌≤◌, ◌∙◌}
use Rattle.std.proofs.lemmas.Result.{err_from_is_err_and}
use Rattle.std.specs.Prelude.{option_map}
use Rattle.std.specs.Result.{result_err}

pub invariant_of-self : goal.invariant_of-self
invariant_of-self g c = c.prepare_each.ensures.voted.size ∙ c.self.invariant

pub invariant_of-self-in_err-number : goal.invariant_of-self-in_err-number
invariant_of-self-in_err-number g c = c.prepare_each.ensures.voted.size ∙ c.self.invariant ∙ ap (λ (s : Shape). s.parts) (sym c.decide.ensures.shape)

pub invariant_of-self-in_err-end_each : goal.invariant_of-self-in_err-end_each
invariant_of-self-in_err-end_each g c = c.end_each.ensures.told.size ∙ c.prepare_each.ensures.voted.size ∙ c.self.invariant ∙ ap (λ (s : Shape). s.parts) (sym c.decide.ensures.shape)

pub invariant_of-self-2 : goal.invariant_of-self-2
invariant_of-self-2 g c = c.end_each.ensures.told.size ∙ c.prepare_each.ensures.voted.size ∙ c.self.invariant ∙ ap (λ (s : Shape). s.parts) (sym c.decide.ensures.shape)

pub mask_of-mask-requires : goal.mask_of-mask-requires
mask_of-mask-requires g c =
    let x = c.args.self.now in
    let d = g.D.Disks.view c.args.disks.now in
    let cs = c.args.changes.now in
    let shared : c.deref.result.now ≡ shares_in x cs = c.deref.ensures.value ∙ c.requires.shared in
    let s = c.requires.stands in
    few_shares reading d x s.which s.c s.v s.is c.args.unit cs c.args.mv.now s.m s.conts s.may c.deref.result.now shared

pub prepare_each-requires-clause-size : goal.prepare_each-requires-clause-size
prepare_each-requires-clause-size g c =
    let x = shown c.self.inside in
    let d = g.D.Disks.view c.args.disks.now in
    let cs = c.args.changes.now in
    let shared : c.deref-2.result.now ≡ shares_in x cs = c.deref-2.ensures.value ∙ c.requires.shared ∙ ap (λ (y : Store). shares_in y cs) (sym c.self.view_is) in
    let s = subst (λ (y : Store). StandsToCommit d y c.args.unit c.args.changes.now c.args.mv.now) (sym c.self.view_is) c.requires.stands in
    share_each reading d x s.which s.c s.v s.is c.args.unit cs c.args.mv.now s.m s.conts s.may c.deref-2.result.now shared

pub prepare_each-requires-clause-may : goal.prepare_each-requires-clause-may
prepare_each-requires-clause-may g c =
    let x = shown c.self.inside in
    let d = g.D.Disks.view c.args.disks.now in
    let cs = c.args.changes.now in
    let shared : c.deref-2.result.now ≡ shares_in x cs = c.deref-2.ensures.value ∙ c.requires.shared ∙ ap (λ (y : Store). shares_in y cs) (sym c.self.view_is) in
    let s = subst (λ (y : Store). StandsToCommit d y c.args.unit c.args.changes.now c.args.mv.now) (sym c.self.view_is) c.requires.stands in
    let hand : IsInHand c.args.unit cs c.args.mv.now = record { unit = record { boot = omega arith; seq = omega arith }; count = omega arith; move = omega arith; changes = c.told_changes.ensures } in
    let below : last_decision x + 1 < 2 ^ 64 = omega (arith, c.requires.below, ap (λ (y : Store). last_decision y) c.self.view_is) in
    may_vote reading d x s.which s.c s.v s.is c.args.unit cs c.args.mv.now s.m s.conts s.may c.deref-2.result.now shared hand below

pub prepare_each-requires-clause-few : goal.prepare_each-requires-clause-few
prepare_each-requires-clause-few g c =
    let x = shown c.self.inside in
    let d = g.D.Disks.view c.args.disks.now in
    let cs = c.args.changes.now in
    let shared : c.deref-2.result.now ≡ shares_in x cs = c.deref-2.ensures.value ∙ c.requires.shared ∙ ap (λ (y : Store). shares_in y cs) (sym c.self.view_is) in
    let s = subst (λ (y : Store). StandsToCommit d y c.args.unit c.args.changes.now c.args.mv.now) (sym c.self.view_is) c.requires.stands in
    few_shares reading d x s.which s.c s.v s.is c.args.unit cs c.args.mv.now s.m s.conts s.may c.deref-2.result.now shared

pub returns-in_err-prepare_each-clause-images : goal.returns-in_err-prepare_each-clause-images
returns-in_err-prepare_each-clause-images g c which co v m conts is may told asked image left =
    let x = shown c.self.inside in
    let d = g.D.Disks.view c.args.disks.now in
    let cs = c.args.changes.now in
    let was = subst (λ (y : Store). IsStore reading d y which co v) (sym c.self.view_is) is in
    let shared : c.deref-2.result.now ≡ shares_in x cs = c.deref-2.ensures.value ∙ c.requires.shared ∙ ap (λ (y : Store). shares_in y cs) (sym c.self.view_is) in
    let hand : IsInHand c.args.unit cs c.args.mv.now = record { unit = record { boot = omega arith; seq = omega arith }; count = omega arith; move = omega arith; changes = c.told_changes.ensures } in
    let below : last_decision x + 1 < 2 ^ 64 = omega (arith, c.requires.below, ap (λ (y : Store). last_decision y) c.self.view_is) in
    inl (undecided_image reading d x which co v was c.args.unit cs c.args.mv.now m conts may c.deref-2.result.now shared hand below told (g.D.Disks.view c.prepare_each.new.disks) (result_err c.prepare_each.result) c.prepare_each.new.parts.items c.prepare_each.ensures.voted asked image left)

pub returns-in_err-prepare_each-clause-others : goal.returns-in_err-prepare_each-clause-others
returns-in_err-prepare_each-clause-others g c =
    let x = shown c.self.inside in
    let d = g.D.Disks.view c.args.disks.now in
    let cs = c.args.changes.now in
    let shared : c.deref-2.result.now ≡ shares_in x cs = c.deref-2.ensures.value ∙ c.requires.shared ∙ ap (λ (y : Store). shares_in y cs) (sym c.self.view_is) in
    let p = err_from_is_err_and c.from_residual.result c.from_residual.ensures.1 in
    let b = g.D.Disks.view c.prepare_each.new.disks in
    rw (answer_is c.from_residual.result p.0 c.in_err-prepare_each.field-0.0 p.1 p.2) (subst (λ (y : Store). KeepsBut (IsCommitDevice y cs) d b (Some c.in_err-prepare_each.field-0.0)) c.self.view_is (wider_votes x c.self.invariant cs c.deref-2.result.now shared d b (Some c.in_err-prepare_each.field-0.0) c.in_err-prepare_each.ensures.voted.others))

pub returns-in_err-prepare_each-clause-full : goal.returns-in_err-prepare_each-clause-full
returns-in_err-prepare_each-clause-full g c told =
    let x = shown c.self.inside in
    let d = g.D.Disks.view c.args.disks.now in
    let cs = c.args.changes.now in
    let shared : c.deref-2.result.now ≡ shares_in x cs = c.deref-2.ensures.value ∙ c.requires.shared ∙ ap (λ (y : Store). shares_in y cs) (sym c.self.view_is) in
    let p = err_from_is_err_and c.from_residual.result c.from_residual.ensures.1 in
    rw (answer_is c.from_residual.result p.0 c.in_err-prepare_each.field-0.0 p.1 p.2) (subst (λ (y : Store). FullWhere (UnitPassesLimit d.limit y c.args.unit cs c.args.mv.now) (Some c.in_err-prepare_each.field-0.0)) c.self.view_is (votes_full x c.self.invariant cs c.deref-2.result.now shared d (g.D.Disks.view c.prepare_each.new.disks) d.limit c.args.unit c.args.mv.now (Some c.in_err-prepare_each.field-0.0) (c.in_err-prepare_each.ensures.voted.full told)))

pub decide-requires-clause-log : goal.decide-requires-clause-log
decide-requires-clause-log g c =
    let x = shown c.self.inside in
    let d = g.D.Disks.view c.args.disks.now in
    let cs = c.args.changes.now in
    let shared : c.deref-2.result.now ≡ shares_in x cs = c.deref-2.ensures.value ∙ c.requires.shared ∙ ap (λ (y : Store). shares_in y cs) (sym c.self.view_is) in
    let s = subst (λ (y : Store). StandsToCommit d y c.args.unit c.args.changes.now c.args.mv.now) (sym c.self.view_is) c.requires.stands in
    let hand : IsInHand c.args.unit cs c.args.mv.now = record { unit = record { boot = omega arith; seq = omega arith }; count = omega arith; move = omega arith; changes = c.told_changes.ensures } in
    let below : last_decision x + 1 < 2 ^ 64 = omega (arith, c.requires.below, ap (λ (y : Store). last_decision y) c.self.view_is) in
    let b = g.D.Disks.view c.prepare_each.new.disks in
    let y : Store = record { decisions = x.decisions; parts = c.prepare_each.new.parts.items; messages = x.messages } in
    let ok = c.in_ok-prepare_each.ensures.ok s.which s.c.log s.v (may_vote_as reading d x s.which s.c s.v s.is c.args.unit cs c.args.mv.now s.m s.conts s.may c.deref-2.result.now shared) in
    (s.which, (s.c.log, (between reading d x s.which s.c s.v s.is c.args.unit cs c.args.mv.now s.m s.conts s.may c.deref-2.result.now shared hand below b y refl c.in_ok-prepare_each.ensures.voted ok).decisions))

pub decide-requires-clause-bits : goal.decide-requires-clause-bits
decide-requires-clause-bits g c =
    let x = shown c.self.inside in
    let d = g.D.Disks.view c.args.disks.now in
    let cs = c.args.changes.now in
    let shared : c.deref.result.now ≡ shares_in x cs = c.deref.ensures.value ∙ c.requires.shared ∙ ap (λ (y : Store). shares_in y cs) (sym c.self.view_is) in
    let s = subst (λ (y : Store). StandsToCommit d y c.args.unit c.args.changes.now c.args.mv.now) (sym c.self.view_is) c.requires.stands in
    ap (λ n. Rattle.std.specs.Prelude.nat_lt n (2 ^ (decisions.shape_of x.decisions).parts)) c.mask_of-mask.ensures.mask ∙ mask_within reading d x s.which s.c s.v s.is c.args.unit cs c.args.mv.now s.m s.conts s.may c.deref.result.now shared

pub returns-in_err-number-clause-images : goal.returns-in_err-number-clause-images
returns-in_err-number-clause-images g c which co v m conts is may told asked image left =
    let x = shown c.self.inside in
    let d = g.D.Disks.view c.args.disks.now in
    let cs = c.args.changes.now in
    let was = subst (λ (y : Store). IsStore reading d y which co v) (sym c.self.view_is) is in
    let shared : c.deref-2.result.now ≡ shares_in x cs = c.deref-2.ensures.value ∙ c.requires.shared ∙ ap (λ (y : Store). shares_in y cs) (sym c.self.view_is) in
    let hand : IsInHand c.args.unit cs c.args.mv.now = record { unit = record { boot = omega arith; seq = omega arith }; count = omega arith; move = omega arith; changes = c.told_changes.ensures } in
    let below : last_decision x + 1 < 2 ^ 64 = omega (arith, c.requires.below, ap (λ (y : Store). last_decision y) c.self.view_is) in
    let b = g.D.Disks.view c.prepare_each.new.disks in
    let y : Store = record { decisions = x.decisions; parts = c.prepare_each.new.parts.items; messages = x.messages } in
    let masked : c.mask_of-mask.result ≡ mask_of c.deref-2.result.now = c.mask_of-mask.ensures.mask ∙ ap mask_of (c.deref.ensures.value ∙ sym c.deref-2.ensures.value) in
    let ok = c.in_ok-prepare_each.ensures.ok which co.log v (may_vote_as reading d x which co v was c.args.unit cs c.args.mv.now m conts may c.deref-2.result.now shared) in
    let dev = device_of 0 which in
    let e = g.D.Disks.view c.decide.new.disks in
    let images = subst (λ n. EachImage e dev (IsBeforeOrWith (b.bytes dev) (spell_entry (Decides (decisions.next_decision x.decisions c.args.unit n c.args.mv.now))))) masked (c.decide.ensures.images which co.log (between reading d x which co v was c.args.unit cs c.args.mv.now m conts may c.deref-2.result.now shared hand below b y refl c.in_ok-prepare_each.ensures.voted ok).decisions) in
    decided_image reading d x which co v was c.args.unit cs c.args.mv.now m conts may c.deref-2.result.now shared hand below b y refl c.in_ok-prepare_each.ensures.voted ok told e (result_err c.decide.result) c.decide.ensures.others images asked image left

pub returns-in_err-number-clause-others : goal.returns-in_err-number-clause-others
returns-in_err-number-clause-others g c =
    let x = shown c.self.inside in
    let d = g.D.Disks.view c.args.disks.now in
    let cs = c.args.changes.now in
    let shared : c.deref-2.result.now ≡ shares_in x cs = c.deref-2.ensures.value ∙ c.requires.shared ∙ ap (λ (y : Store). shares_in y cs) (sym c.self.view_is) in
    let p = err_from_is_err_and c.from_residual-in_err-number.result c.from_residual-in_err-number.ensures.1 in
    rw (answer_is c.from_residual-in_err-number.result p.0 c.in_err-number.field-0.0 p.1 p.2) (subst (λ (y : Store). KeepsBut (IsCommitDevice y cs) d (g.D.Disks.view c.decide.new.disks) (Some c.in_err-number.field-0.0)) c.self.view_is (wider_decision x c.self.invariant cs c.deref-2.result.now shared d (g.D.Disks.view c.prepare_each.new.disks) (g.D.Disks.view c.decide.new.disks) (Some c.in_err-number.field-0.0) c.in_ok-prepare_each.ensures.voted.others c.in_err-number.ensures.others))

pub returns-in_err-number-clause-full : goal.returns-in_err-number-clause-full
returns-in_err-number-clause-full g c told =
    let x = shown c.self.inside in
    let d = g.D.Disks.view c.args.disks.now in
    let cs = c.args.changes.now in
    let shared : c.deref.result.now ≡ shares_in x cs = c.deref.ensures.value ∙ c.requires.shared ∙ ap (λ (y : Store). shares_in y cs) (sym c.self.view_is) in
    let p = err_from_is_err_and c.from_residual-in_err-number.result c.from_residual-in_err-number.ensures.1 in
    rw (answer_is c.from_residual-in_err-number.result p.0 c.in_err-number.field-0.0 p.1 p.2) (subst (λ (y : Store). FullWhere (UnitPassesLimit d.limit y c.args.unit cs c.args.mv.now) (Some c.in_err-number.field-0.0)) c.self.view_is (decision_full x cs d (g.D.Disks.view c.prepare_each.new.disks) c.in_ok-prepare_each.ensures.voted.others.shape c.args.unit c.args.mv.now c.mask_of-mask.result (c.mask_of-mask.ensures.mask ∙ ap mask_of shared) c.in_err-number.field-0.0 c.in_err-number.ensures.full))

pub end_each-requires-clause-size : goal.end_each-requires-clause-size
end_each-requires-clause-size g c =
    let x = shown c.self.inside in
    let d = g.D.Disks.view c.args.disks.now in
    let cs = c.args.changes.now in
    let shared : c.deref-2.result.now ≡ shares_in x cs = c.deref-2.ensures.value ∙ c.requires.shared ∙ ap (λ (y : Store). shares_in y cs) (sym c.self.view_is) in
    let s = subst (λ (y : Store). StandsToCommit d y c.args.unit c.args.changes.now c.args.mv.now) (sym c.self.view_is) c.requires.stands in
    sym (ap (λ l. length l) c.deref-2.ensures.value) ∙ share_each reading d x s.which s.c s.v s.is c.args.unit cs c.args.mv.now s.m s.conts s.may c.deref-2.result.now shared ∙ sym c.in_ok-prepare_each.ensures.voted.size

pub end_each-requires-clause-few : goal.end_each-requires-clause-few
end_each-requires-clause-few g c =
    let x = shown c.self.inside in
    let d = g.D.Disks.view c.args.disks.now in
    let cs = c.args.changes.now in
    let shared : c.deref-2.result.now ≡ shares_in x cs = c.deref-2.ensures.value ∙ c.requires.shared ∙ ap (λ (y : Store). shares_in y cs) (sym c.self.view_is) in
    let s = subst (λ (y : Store). StandsToCommit d y c.args.unit c.args.changes.now c.args.mv.now) (sym c.self.view_is) c.requires.stands in
    subst (λ l. length l ≤ 8) c.deref-2.ensures.value (few_shares reading d x s.which s.c s.v s.is c.args.unit cs c.args.mv.now s.m s.conts s.may c.deref-2.result.now shared)

pub end_each-requires-clause-may : goal.end_each-requires-clause-may
end_each-requires-clause-may g c =
    let x = shown c.self.inside in
    let d = g.D.Disks.view c.args.disks.now in
    let cs = c.args.changes.now in
    let shared : c.deref-2.result.now ≡ shares_in x cs = c.deref-2.ensures.value ∙ c.requires.shared ∙ ap (λ (y : Store). shares_in y cs) (sym c.self.view_is) in
    let s = subst (λ (y : Store). StandsToCommit d y c.args.unit c.args.changes.now c.args.mv.now) (sym c.self.view_is) c.requires.stands in
    let hand : IsInHand c.args.unit cs c.args.mv.now = record { unit = record { boot = omega arith; seq = omega arith }; count = omega arith; move = omega arith; changes = c.told_changes.ensures } in
    let below : last_decision x + 1 < 2 ^ 64 = omega (arith, c.requires.below, ap (λ (y : Store). last_decision y) c.self.view_is) in
    let b = g.D.Disks.view c.prepare_each.new.disks in
    let y : Store = record { decisions = x.decisions; parts = c.prepare_each.new.parts.items; messages = x.messages } in
    let masked : c.mask_of-mask.result ≡ mask_of c.deref-2.result.now = c.mask_of-mask.ensures.mask ∙ ap mask_of (c.deref.ensures.value ∙ sym c.deref-2.ensures.value) in
    let ok = c.in_ok-prepare_each.ensures.ok s.which s.c.log s.v (may_vote_as reading d x s.which s.c s.v s.is c.args.unit cs c.args.mv.now s.m s.conts s.may c.deref-2.result.now shared) in
    let e = g.D.Disks.view c.decide.new.disks in
    let log = subst (λ n. IsDecisions e c.decide.new.self s.which (decided s.c.log (decisions.next_decision x.decisions c.args.unit n c.args.mv.now))) masked (c.in_ok-number.ensures.ok s.which s.c.log (between reading d x s.which s.c s.v s.is c.args.unit cs c.args.mv.now s.m s.conts s.may c.deref-2.result.now shared hand below b y refl c.in_ok-prepare_each.ensures.voted ok).decisions) in
    subst (λ l. MayTell e c.prepare_each.new.parts.items c.args.unit l) c.deref-2.ensures.value (may_tell reading d x s.which s.c s.v s.is c.args.unit cs c.args.mv.now s.m s.conts s.may c.deref-2.result.now shared hand below b y refl c.in_ok-prepare_each.ensures.voted ok e c.in_ok-number.ensures.others c.decide.new.self log)

pub end_each-requires-clause-started : goal.end_each-requires-clause-started
end_each-requires-clause-started g c =
    (c.self.inside.messages, subst (λ l. HaveStarted c.args.unit (nodes_of l) c.self.inside.messages c.prepare_each.new.messages) c.deref-2.ensures.value c.in_ok-prepare_each.ensures.started)

pub returns-in_err-end_each-clause-images : goal.returns-in_err-end_each-clause-images
returns-in_err-end_each-clause-images g c which co v m conts is may told asked image left =
    let x = shown c.self.inside in
    let d = g.D.Disks.view c.args.disks.now in
    let cs = c.args.changes.now in
    let was = subst (λ (y : Store). IsStore reading d y which co v) (sym c.self.view_is) is in
    let shared : c.deref-2.result.now ≡ shares_in x cs = c.deref-2.ensures.value ∙ c.requires.shared ∙ ap (λ (y : Store). shares_in y cs) (sym c.self.view_is) in
    let hand : IsInHand c.args.unit cs c.args.mv.now = record { unit = record { boot = omega arith; seq = omega arith }; count = omega arith; move = omega arith; changes = c.told_changes.ensures } in
    let below : last_decision x + 1 < 2 ^ 64 = omega (arith, c.requires.below, ap (λ (y : Store). last_decision y) c.self.view_is) in
    let b = g.D.Disks.view c.prepare_each.new.disks in
    let y : Store = record { decisions = x.decisions; parts = c.prepare_each.new.parts.items; messages = x.messages } in
    let masked : c.mask_of-mask.result ≡ mask_of c.deref-2.result.now = c.mask_of-mask.ensures.mask ∙ ap mask_of (c.deref.ensures.value ∙ sym c.deref-2.ensures.value) in
    let ok = c.in_ok-prepare_each.ensures.ok which co.log v (may_vote_as reading d x which co v was c.args.unit cs c.args.mv.now m conts may c.deref-2.result.now shared) in
    let e = g.D.Disks.view c.decide.new.disks in
    let log = subst (λ n. IsDecisions e c.decide.new.self which (decided co.log (decisions.next_decision x.decisions c.args.unit n c.args.mv.now))) masked (c.in_ok-number.ensures.ok which co.log (between reading d x which co v was c.args.unit cs c.args.mv.now m conts may c.deref-2.result.now shared hand below b y refl c.in_ok-prepare_each.ensures.voted ok).decisions) in
    let f = g.D.Disks.view c.end_each.new.disks in
    let done = subst (λ l. HaveTold e f c.prepare_each.new.parts.items c.end_each.new.parts.items c.args.unit l (result_err c.end_each.result)) (sym c.deref-2.ensures.value) c.end_each.ensures.told in
    told_image reading d x which co v was c.args.unit cs c.args.mv.now m conts may c.deref-2.result.now shared hand below b y refl c.in_ok-prepare_each.ensures.voted ok e c.in_ok-number.ensures.others c.decide.new.self log told f (result_err c.end_each.result) c.end_each.new.parts.items done asked image left

pub returns-clause-images : goal.returns-clause-images
returns-clause-images g c which co v m conts is may told asked image left =
    let x = shown c.self.inside in
    let d = g.D.Disks.view c.args.disks.now in
    let cs = c.args.changes.now in
    let was = subst (λ (y : Store). IsStore reading d y which co v) (sym c.self.view_is) is in
    let shared : c.deref-2.result.now ≡ shares_in x cs = c.deref-2.ensures.value ∙ c.requires.shared ∙ ap (λ (y : Store). shares_in y cs) (sym c.self.view_is) in
    let hand : IsInHand c.args.unit cs c.args.mv.now = record { unit = record { boot = omega arith; seq = omega arith }; count = omega arith; move = omega arith; changes = c.told_changes.ensures } in
    let below : last_decision x + 1 < 2 ^ 64 = omega (arith, c.requires.below, ap (λ (y : Store). last_decision y) c.self.view_is) in
    let b = g.D.Disks.view c.prepare_each.new.disks in
    let y : Store = record { decisions = x.decisions; parts = c.prepare_each.new.parts.items; messages = x.messages } in
    let masked : c.mask_of-mask.result ≡ mask_of c.deref-2.result.now = c.mask_of-mask.ensures.mask ∙ ap mask_of (c.deref.ensures.value ∙ sym c.deref-2.ensures.value) in
    let ok = c.in_ok-prepare_each.ensures.ok which co.log v (may_vote_as reading d x which co v was c.args.unit cs c.args.mv.now m conts may c.deref-2.result.now shared) in
    let e = g.D.Disks.view c.decide.new.disks in
    let log = subst (λ n. IsDecisions e c.decide.new.self which (decided co.log (decisions.next_decision x.decisions c.args.unit n c.args.mv.now))) masked (c.in_ok-number.ensures.ok which co.log (between reading d x which co v was c.args.unit cs c.args.mv.now m conts may c.deref-2.result.now shared hand below b y refl c.in_ok-prepare_each.ensures.voted ok).decisions) in
    let f = g.D.Disks.view c.end_each.new.disks in
    let done = subst (λ l. HaveTold e f c.prepare_each.new.parts.items c.end_each.new.parts.items c.args.unit l (result_err c.end_each.result)) (sym c.deref-2.ensures.value) c.end_each.ensures.told in
    told_image reading d x which co v was c.args.unit cs c.args.mv.now m conts may c.deref-2.result.now shared hand below b y refl c.in_ok-prepare_each.ensures.voted ok e c.in_ok-number.ensures.others c.decide.new.self log told f (result_err c.end_each.result) c.end_each.new.parts.items done asked image left

pub returns-in_err-end_each-clause-others : goal.returns-in_err-end_each-clause-others
returns-in_err-end_each-clause-others g c =
    let x = shown c.self.inside in
    let d = g.D.Disks.view c.args.disks.now in
    let cs = c.args.changes.now in
    let shared : c.deref-2.result.now ≡ shares_in x cs = c.deref-2.ensures.value ∙ c.requires.shared ∙ ap (λ (y : Store). shares_in y cs) (sym c.self.view_is) in
    let p = err_from_is_err_and c.from_residual-in_err-end_each.result c.from_residual-in_err-end_each.ensures.1 in
    rw (answer_is c.from_residual-in_err-end_each.result p.0 c.in_err-end_each.field-0.0 p.1 p.2) (subst (λ (y : Store). KeepsBut (IsCommitDevice y cs) d (g.D.Disks.view c.end_each.new.disks) (Some c.in_err-end_each.field-0.0)) c.self.view_is (wider_told x c.self.invariant cs c.deref-2.result.now shared d (g.D.Disks.view c.prepare_each.new.disks) (g.D.Disks.view c.decide.new.disks) (g.D.Disks.view c.end_each.new.disks) (length c.prepare_each.new.parts.items) (Some c.in_err-end_each.field-0.0) c.in_ok-prepare_each.ensures.voted.size c.in_ok-prepare_each.ensures.voted.others c.in_ok-number.ensures.others c.in_err-end_each.ensures.told.others))

pub returns-in_err-end_each-clause-full : goal.returns-in_err-end_each-clause-full
returns-in_err-end_each-clause-full g c told =
    let x = shown c.self.inside in
    let d = g.D.Disks.view c.args.disks.now in
    let cs = c.args.changes.now in
    let shared : c.deref-2.result.now ≡ shares_in x cs = c.deref-2.ensures.value ∙ c.requires.shared ∙ ap (λ (y : Store). shares_in y cs) (sym c.self.view_is) in
    let p = err_from_is_err_and c.from_residual-in_err-end_each.result c.from_residual-in_err-end_each.ensures.1 in
    let later = c.in_ok-number.ensures.others.shape.told ∙ (c.in_ok-prepare_each.ensures.voted.others.shape.told ∙ told) in
    rw (answer_is c.from_residual-in_err-end_each.result p.0 c.in_err-end_each.field-0.0 p.1 p.2) (subst (λ (y : Store). FullWhere (UnitPassesLimit d.limit y c.args.unit cs c.args.mv.now) (Some c.in_err-end_each.field-0.0)) c.self.view_is (told_full x c.self.invariant cs c.deref-2.result.now shared d (g.D.Disks.view c.prepare_each.new.disks) d.limit c.args.unit c.args.mv.now (length c.prepare_each.new.parts.items) (Some c.in_err-end_each.field-0.0) c.in_ok-prepare_each.ensures.voted.size (c.in_err-end_each.ensures.told.full later)))

pub returns-clause-others : goal.returns-clause-others
returns-clause-others g c =
    let x = shown c.self.inside in
    let d = g.D.Disks.view c.args.disks.now in
    let cs = c.args.changes.now in
    let shared : c.deref-2.result.now ≡ shares_in x cs = c.deref-2.ensures.value ∙ c.requires.shared ∙ ap (λ (y : Store). shares_in y cs) (sym c.self.view_is) in
    subst (λ (y : Store). KeepsBut (IsCommitDevice y cs) d (g.D.Disks.view c.end_each.new.disks) None) c.self.view_is (wider_told x c.self.invariant cs c.deref-2.result.now shared d (g.D.Disks.view c.prepare_each.new.disks) (g.D.Disks.view c.decide.new.disks) (g.D.Disks.view c.end_each.new.disks) (length c.prepare_each.new.parts.items) None c.in_ok-prepare_each.ensures.voted.size c.in_ok-prepare_each.ensures.voted.others c.in_ok-number.ensures.others c.in_ok-end_each.ensures.told.others)

pub returns-clause-ok : goal.returns-clause-ok
returns-clause-ok g c which co v m conts is may =
    let x = shown c.self.inside in
    let d = g.D.Disks.view c.args.disks.now in
    let cs = c.args.changes.now in
    let was = subst (λ (y : Store). IsStore reading d y which co v) (sym c.self.view_is) is in
    let shared : c.deref-2.result.now ≡ shares_in x cs = c.deref-2.ensures.value ∙ c.requires.shared ∙ ap (λ (y : Store). shares_in y cs) (sym c.self.view_is) in
    let hand : IsInHand c.args.unit cs c.args.mv.now = record { unit = record { boot = omega arith; seq = omega arith }; count = omega arith; move = omega arith; changes = c.told_changes.ensures } in
    let below : last_decision x + 1 < 2 ^ 64 = omega (arith, c.requires.below, ap (λ (y : Store). last_decision y) c.self.view_is) in
    let b = g.D.Disks.view c.prepare_each.new.disks in
    let y : Store = record { decisions = x.decisions; parts = c.prepare_each.new.parts.items; messages = x.messages } in
    let masked : c.mask_of-mask.result ≡ mask_of c.deref-2.result.now = c.mask_of-mask.ensures.mask ∙ ap mask_of (c.deref.ensures.value ∙ sym c.deref-2.ensures.value) in
    let ok = c.in_ok-prepare_each.ensures.ok which co.log v (may_vote_as reading d x which co v was c.args.unit cs c.args.mv.now m conts may c.deref-2.result.now shared) in
    let e = g.D.Disks.view c.decide.new.disks in
    let log = subst (λ n. IsDecisions e c.decide.new.self which (decided co.log (decisions.next_decision x.decisions c.args.unit n c.args.mv.now))) masked (c.in_ok-number.ensures.ok which co.log (between reading d x which co v was c.args.unit cs c.args.mv.now m conts may c.deref-2.result.now shared hand below b y refl c.in_ok-prepare_each.ensures.voted ok).decisions) in
    let f = g.D.Disks.view c.end_each.new.disks in
    let done = subst (λ l. HaveTold e f c.prepare_each.new.parts.items c.end_each.new.parts.items c.args.unit l None) (sym c.deref-2.ensures.value) c.in_ok-end_each.ensures.told in
    let next = decided co.log (next_decision co c.args.unit cs c.args.mv.now) in
    let views = with_shares c.args.unit (shares_of co.log.header.shape cs) v in
    let there = subst (λ l. IsBehind e c.prepare_each.new.parts.items c.args.unit l which next views (decided_by co)) c.deref-2.ensures.value (behind reading d x which co v was c.args.unit cs c.args.mv.now m conts may c.deref-2.result.now shared hand below b y refl c.in_ok-prepare_each.ensures.voted ok e c.in_ok-number.ensures.others c.decide.new.self log) in
    committed reading d x which co v was c.args.unit cs c.args.mv.now m conts may c.deref-2.result.now shared hand below b y refl c.in_ok-prepare_each.ensures.voted ok e c.in_ok-number.ensures.others c.decide.new.self log f _ done refl (c.in_ok-end_each.ensures.ok which next views (decided_by co) there)

pub returns-clause-net : goal.returns-clause-net
returns-clause-net g c =
    let cs = c.args.changes.now in
    let shared : c.args.shares.items ≡ shares_in (shown c.self.inside) cs = c.requires.shared ∙ ap (λ (y : Store). shares_in y cs) (sym c.self.view_is) in
    let started = subst (λ l. HaveStarted c.args.unit (nodes_of l) c.self.inside.messages c.prepare_each.new.messages) c.deref-2.ensures.value c.in_ok-prepare_each.ensures.started in
    (c.in_ok-end_each.ensures.committed c.self.inside.messages (subst (λ (y : Store). IsAtRest y) (sym c.self.view_is) c.requires.rests) (subst (λ (y : Store). IsNewIn y c.args.unit) (sym c.self.view_is) c.requires.new) started).commits
    ∙ ap (λ l. option_map (commits c.args.unit l) (net_of (shown c.self.inside))) (ap nodes_of shared ∙ nodes_are (shape_of_store (shown c.self.inside)) cs 0 (shape_of_store (shown c.self.inside)).parts)
    ∙ ap (λ (y : Store). option_map (commits c.args.unit (nodes_in (shape_of_store y) cs)) (net_of y)) c.self.view_is

pub returns-clause-rests : goal.returns-clause-rests
returns-clause-rests g c =
    let started = subst (λ l. HaveStarted c.args.unit (nodes_of l) c.self.inside.messages c.prepare_each.new.messages) c.deref-2.ensures.value c.in_ok-prepare_each.ensures.started in
    (c.in_ok-end_each.ensures.committed c.self.inside.messages (subst (λ (y : Store). IsAtRest y) (sym c.self.view_is) c.requires.rests) (subst (λ (y : Store). IsNewIn y c.args.unit) (sym c.self.view_is) c.requires.new) started).rests

pub returns-clause-others_new : goal.returns-clause-others_new
returns-clause-others_new g c =
    let started = subst (λ l. HaveStarted c.args.unit (nodes_of l) c.self.inside.messages c.prepare_each.new.messages) c.deref-2.ensures.value c.in_ok-prepare_each.ensures.started in
    λ w other new. (c.in_ok-end_each.ensures.committed c.self.inside.messages (subst (λ (y : Store). IsAtRest y) (sym c.self.view_is) c.requires.rests) (subst (λ (y : Store). IsNewIn y c.args.unit) (sym c.self.view_is) c.requires.new) started).others w other (subst (λ (y : Store). IsNewIn y w) (sym c.self.view_is) new)

pub returns-in_err-prepare_each-clause-untouched : goal.returns-in_err-prepare_each-clause-untouched
returns-in_err-prepare_each-clause-untouched g c told n res log =
    let x = shown c.self.inside in
    let d = g.D.Disks.view c.args.disks.now in
    let cs = c.args.changes.now in
    let shared : c.deref-2.result.now ≡ shares_in x cs = c.deref-2.ensures.value ∙ c.requires.shared ∙ ap (λ (y : Store). shares_in y cs) (sym c.self.view_is) in
    let s = subst (λ (y : Store). StandsToCommit d y c.args.unit c.args.changes.now c.args.mv.now) (sym c.self.view_is) c.requires.stands in
    let p = err_from_is_err_and c.from_residual.result c.from_residual.ensures.1 in
    let same : p.0 ≡ Full n = cc (p.1, res) in
    let full : c.in_err-prepare_each.field-0.0 ≡ Full n = sym p.2 ∙ same in
    let mine = subst (λ (y : Store). IsCommitLog y cs n) (sym c.self.view_is) log in
    let voted = c.in_err-prepare_each.ensures.voted in
    let passes = subst (λ (k : DiskErr). FullWhere (VotesPassLimit d.limit x.parts c.args.unit c.deref-2.result.now) (Some k)) full (voted.full told) in
    voted.untouched n (ap (λ (k : DiskErr). Some k) full) (share_log x c.deref-2.result.now d.limit c.args.unit n passes (no_log_pages reading d x s.which s.c s.v s.is cs (length x.parts) n mine))

pub returns-in_err-number-clause-untouched : goal.returns-in_err-number-clause-untouched
returns-in_err-number-clause-untouched g c told n res log =
    let x = shown c.self.inside in
    let d = g.D.Disks.view c.args.disks.now in
    let cs = c.args.changes.now in
    let s = subst (λ (y : Store). StandsToCommit d y c.args.unit c.args.changes.now c.args.mv.now) (sym c.self.view_is) c.requires.stands in
    let p = err_from_is_err_and c.from_residual-in_err-number.result c.from_residual-in_err-number.ensures.1 in
    let same : p.0 ≡ Full n = cc (p.1, res) in
    let full : c.in_err-number.field-0.0 ≡ Full n = sym p.2 ∙ same in
    let dev = decisions.device_in x.decisions in
    let end = decisions.gate_in x.decisions + 10 + length (spell_entry (Decides (decisions.next_decision x.decisions c.args.unit c.mask_of-mask.result c.args.mv.now))) in
    let b = g.D.Disks.view c.prepare_each.new.disks in
    let at = subst (λ k. FullExactly dev (b.limit dev) end (Some k)) full c.in_err-number.ensures.full in
    decision_untouched reading d x s.which s.c s.v s.is b (g.D.Disks.view c.decide.new.disks) c.deref-2.result.now c.in_ok-prepare_each.ensures.voted.others n at.0 (c.in_err-number.ensures.untouched n (ap Err full))

pub returns-in_err-end_each-clause-untouched : goal.returns-in_err-end_each-clause-untouched
returns-in_err-end_each-clause-untouched g c told n res log =
    let x = shown c.self.inside in
    let d = g.D.Disks.view c.args.disks.now in
    let cs = c.args.changes.now in
    let s = subst (λ (y : Store). StandsToCommit d y c.args.unit c.args.changes.now c.args.mv.now) (sym c.self.view_is) c.requires.stands in
    let p = err_from_is_err_and c.from_residual-in_err-end_each.result c.from_residual-in_err-end_each.ensures.1 in
    let same : p.0 ≡ Full n = cc (p.1, res) in
    let full : c.in_err-end_each.field-0.0 ≡ Full n = sym p.2 ∙ same in
    let mine = subst (λ (y : Store). IsCommitLog y cs n) (sym c.self.view_is) log in
    let later = c.in_ok-number.ensures.others.shape.told ∙ (c.in_ok-prepare_each.ensures.voted.others.shape.told ∙ told) in
    let size = length c.prepare_each.new.parts.items in
    absurd (no_log_pages reading d x s.which s.c s.v s.is cs size n mine (subst (λ (k : DiskErr). FullWhere (IsPagesOf size) (Some k)) full (c.in_err-end_each.ensures.told.full later)))

pub returns-in_err-prepare_each-clause-cause : goal.returns-in_err-prepare_each-clause-cause
returns-in_err-prepare_each-clause-cause g c =
    let p = err_from_is_err_and c.from_residual.result c.from_residual.ensures.1 in
    rw (answer_is c.from_residual.result p.0 c.in_err-prepare_each.field-0.0 p.1 p.2) c.in_err-prepare_each.ensures.voted.cause

pub returns-in_err-number-clause-cause : goal.returns-in_err-number-clause-cause
returns-in_err-number-clause-cause g c =
    let d = g.D.Disks.view c.args.disks.now in
    let b = g.D.Disks.view c.prepare_each.new.disks in
    let e = g.D.Disks.view c.decide.new.disks in
    let p = err_from_is_err_and c.from_residual-in_err-number.result c.from_residual-in_err-number.ensures.1 in
    rw (answer_is c.from_residual-in_err-number.result p.0 c.in_err-number.field-0.0 p.1 p.2) (cause_on d b e (Some c.in_err-number.field-0.0) c.in_ok-prepare_each.ensures.voted.cause c.in_err-number.ensures.cause)

pub returns-in_err-end_each-clause-cause : goal.returns-in_err-end_each-clause-cause
returns-in_err-end_each-clause-cause g c =
    let d = g.D.Disks.view c.args.disks.now in
    let b = g.D.Disks.view c.prepare_each.new.disks in
    let e = g.D.Disks.view c.decide.new.disks in
    let f = g.D.Disks.view c.end_each.new.disks in
    let p = err_from_is_err_and c.from_residual-in_err-end_each.result c.from_residual-in_err-end_each.ensures.1 in
    rw (answer_is c.from_residual-in_err-end_each.result p.0 c.in_err-end_each.field-0.0 p.1 p.2)
    (cause_on d e f (Some c.in_err-end_each.field-0.0) (cause_on d b e None c.in_ok-prepare_each.ensures.voted.cause c.in_ok-number.ensures.cause) c.in_err-end_each.ensures.told.cause)

pub returns-clause-cause : goal.returns-clause-cause
returns-clause-cause g c =
    let d = g.D.Disks.view c.args.disks.now in
    let b = g.D.Disks.view c.prepare_each.new.disks in
    let e = g.D.Disks.view c.decide.new.disks in
    let f = g.D.Disks.view c.end_each.new.disks in
    cause_on d e f None (cause_on d b e None c.in_ok-prepare_each.ensures.voted.cause c.in_ok-number.ensures.cause) c.in_ok-end_each.ensures.told.cause

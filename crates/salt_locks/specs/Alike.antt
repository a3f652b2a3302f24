-- A lock that is just the one which is asked for.
use Rattle.salt_locks.specs.Clear.{ends_no_later}
use Rattle.salt_locks.specs.Places.{is_low_at_most}
use Rattle.salt_model.specs.Locks.{is_same_owner}
use Rattle.salt_model.specs.declared.events.Owner.{Owner}
use Rattle.salt_model.specs.declared.locks.Family.TheVariants.{Acid, Alkaline, Saline}
use Rattle.salt_model.specs.declared.locks.Family.{Family}
use Rattle.salt_model.specs.declared.locks.Lock.{Lock}
use Rattle.salt_model.specs.declared.locks.Mode.TheVariants.{Read, Write}
use Rattle.salt_model.specs.declared.locks.Mode.{Mode}
use Rattle.salt_model.specs.declared.locks.Reach.{Reach}
use Rattle.salt_ranges.specs.declared.range.KeyRange.{KeyRange}
use Rattle.std.specs.Prelude.{Bool, false, true, ◌&&◌, ◌==◌}

abbrev pub is_same_family : Family → Family → Bool
is_same_family Acid Acid = true
is_same_family Alkaline Alkaline = true
is_same_family Saline Saline = true
is_same_family f g = false

abbrev pub is_same_mode : Mode → Mode → Bool
is_same_mode Read Read = true
is_same_mode Write Write = true
is_same_mode m n = false

-- neither of the lower ends is above the other, nor of the upper ones
abbrev pub is_same_range : KeyRange → KeyRange → Bool
is_same_range r s = is_low_at_most r.lo s.lo && is_low_at_most s.lo r.lo && ends_no_later r.hi s.hi && ends_no_later s.hi r.hi

abbrev pub is_lock_of : Owner → Family → Reach → Lock → Bool
is_lock_of owner family r l =
    is_same_owner owner l.owner && is_same_family family l.family && is_same_mode r.mode l.mode && (l.table == r.table) && is_same_range r.range l.range

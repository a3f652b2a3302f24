-- What the values of the program mean.
use Rattle.salt_place.specs.declared.placement.PlaceKind.TheVariants.{Remainder}
use Rattle.salt_promise.specs.Words as words
use Rattle.salt_promise.specs.Words.{count_said, early_given, folder_called, kind_called, net_given, once, once_said, settings_of, values_of}
use Rattle.salt_values.specs.declared.limits.TheConstants.{PARTITIONS_MOST}
use Rattle.salt_words.specs.declared.settings.First.{First}
use Rattle.salt_words.specs.declared.settings.Given.TheVariants.{Early, OverNet, Value}
use Rattle.salt_words.specs.declared.settings.Given.{Given}
use Rattle.salt_words.specs.declared.settings.Said.{Said}
use Rattle.salt_promise.specs.declared.command.Setting.TheVariants.{Folder, Parts, Place}
use Rattle.salt_words.specs.declared.settings.Settings.{Settings}
use Rattle.std.specs.Option.{option_copied}
use Rattle.std.specs.Prelude.{List, None, Option, if◌then◌else◌, option_to_list, suc, ◌++◌}

-- what is given, a value by its bytes
abbrev pub given_meant : Given → words.Given
given_meant (Value setting value) = words.given setting value.now
given_meant Early = words.ends_early
given_meant OverNet = words.goes_over_net

abbrev pub first_meant : First → words.Given
first_meant first = given_meant first.given

-- the settings of a run, by the bytes of its folder
abbrev pub settings_meant : Settings → words.Settings
settings_meant s = record { parts = s.parts; folder = option_copied s.folder; kind = s.kind; early = s.early; over_net = s.over_net }

-- the settings where more is given behind what was said
abbrev pub settings_behind : Said → List words.Given → Option words.Settings
settings_behind said gs =
    settings_of
    (once 2 (count_said PARTITIONS_MOST) (option_to_list (option_copied said.parts) ++ values_of Parts gs))
    (once None folder_called (option_to_list (option_copied said.folder) ++ values_of Folder gs))
    (once Remainder kind_called (option_to_list (option_copied said.place) ++ values_of Place gs))
    (once_said (if said.early then suc (early_given gs) else early_given gs))
    (once_said (if said.over_net then suc (net_given gs) else net_given gs))

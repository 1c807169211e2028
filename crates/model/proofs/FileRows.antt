-- The rows of the table that are files, each by computation: what reading the bytes gives.
use mathlib.Core.Path.{refl}
use Rattle.model.specs.Decks.{Holds, reads}
use Rattle.model.specs.TableFiles.{other_start, other_count, too_long, sections_apart, byte_behind, uneven_section, uneven_runs, pin_too_many, pin_twice}
use Rattle.model.specs.TableFiles.{beyond_range, tap_on_pin, run_turned, tap_of_two_runs, other_tree, full_file, plain_file}

pub other_start_holds : Holds other_start
unfolding reads other_start
other_start_holds = refl

pub sections_apart_holds : Holds sections_apart
unfolding reads sections_apart
sections_apart_holds = refl

pub uneven_section_holds : Holds uneven_section
unfolding reads uneven_section
uneven_section_holds = refl

pub pin_too_many_holds : Holds pin_too_many
unfolding reads pin_too_many
pin_too_many_holds = refl

pub pin_twice_holds : Holds pin_twice
unfolding reads pin_twice
pin_twice_holds = refl

pub run_turned_holds : Holds run_turned
unfolding reads run_turned
run_turned_holds = refl

pub full_file_holds : Holds full_file
unfolding reads full_file
full_file_holds = refl

pub plain_file_holds : Holds plain_file
unfolding reads plain_file
plain_file_holds = refl

pub other_count_holds : Holds other_count
unfolding reads other_count
other_count_holds = refl

pub too_long_holds : Holds too_long
unfolding reads too_long
too_long_holds = refl

pub byte_behind_holds : Holds byte_behind
unfolding reads byte_behind
byte_behind_holds = refl

pub uneven_runs_holds : Holds uneven_runs
unfolding reads uneven_runs
uneven_runs_holds = refl

pub beyond_range_holds : Holds beyond_range
unfolding reads beyond_range
beyond_range_holds = refl

pub tap_on_pin_holds : Holds tap_on_pin
unfolding reads tap_on_pin
tap_on_pin_holds = refl

pub tap_of_two_runs_holds : Holds tap_of_two_runs
unfolding reads tap_of_two_runs
tap_of_two_runs_holds = refl

pub other_tree_holds : Holds other_tree
unfolding reads other_tree
other_tree_holds = refl

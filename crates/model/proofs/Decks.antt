-- The table of decks, each row by computation: it holds, and the file of the last state of a row of calls reads back to that state.
use mathlib.Core.Path.{refl}
use Rattle.arrays.specs.Set.{Each}
use Rattle.octants.specs.OctantTable.{octants}
use Rattle.model.specs.Decks.{deck_row, Holds, Filed, play, half_around, filed}
use Rattle.model.specs.Example.{ExampleListing, example_file, example_text, listing_answer}
use Rattle.model.specs.Table.{table, deck1, deck2, deck3, deck4, deck5, deck6, deck7, deck8, deck9, deck10, deck11}
use Rattle.model.specs.TableFiles.{other_start, other_count, too_long, sections_apart, byte_behind, uneven_section, uneven_runs, pin_too_many, pin_twice}
use Rattle.model.specs.TableFiles.{beyond_range, tap_on_pin, run_turned, tap_of_two_runs, other_tree, full_file, plain_file}
use Rattle.model.specs.TableMore.{swept_by_its_round, sweep_order, line_of_tap, second_removal, another_run_joins, order_of_entry, equal_savings}
use Rattle.model.specs.TableMore.{greatest_saving, lower_end_first, octant_border, refusals}
use Rattle.model.specs.TableThreePins.{three_on_aLine, two_on_one_x, middle_is_pin, tap_off_middle}
use Rattle.model.specs.TableThreePins.{box_of_line, box_of_two_on_one_x, box_of_middle_pin, box_of_tap_off_middle, box_around_origin}
use Rattle.model.proofs.FileRows.{other_start_holds, sections_apart_holds, uneven_section_holds, pin_too_many_holds, pin_twice_holds}
use Rattle.model.proofs.FileRows.{run_turned_holds, full_file_holds, plain_file_holds}
use Rattle.model.proofs.FileRows.{other_count_holds, too_long_holds, byte_behind_holds, uneven_runs_holds, beyond_range_holds, tap_on_pin_holds}
use Rattle.model.proofs.FileRows.{tap_of_two_runs_holds, other_tree_holds}

deck1_holds : Holds (deck_row deck1)
unfolding play deck1
deck1_holds = refl

deck2_holds : Holds (deck_row deck2)
unfolding play deck2
deck2_holds = refl

deck3_holds : Holds (deck_row deck3)
unfolding play deck3
deck3_holds = refl

deck4_holds : Holds (deck_row deck4)
unfolding play deck4
deck4_holds = refl

deck5_holds : Holds (deck_row deck5)
unfolding play deck5
deck5_holds = refl

deck6_holds : Holds (deck_row deck6)
unfolding play deck6
deck6_holds = refl

deck7_holds : Holds (deck_row deck7)
unfolding play deck7
deck7_holds = refl

deck8_holds : Holds (deck_row deck8)
unfolding play deck8
deck8_holds = refl

deck9_holds : Holds (deck_row deck9)
unfolding play deck9
deck9_holds = refl

deck10_holds : Holds (deck_row deck10)
unfolding play deck10
deck10_holds = refl

swept_by_its_round_holds : Holds (deck_row swept_by_its_round)
unfolding play swept_by_its_round
swept_by_its_round_holds = refl

sweep_order_holds : Holds (deck_row sweep_order)
unfolding play sweep_order
sweep_order_holds = refl

line_of_tap_holds : Holds (deck_row line_of_tap)
unfolding play line_of_tap
line_of_tap_holds = refl

second_removal_holds : Holds (deck_row second_removal)
unfolding play second_removal
second_removal_holds = refl

another_run_joins_holds : Holds (deck_row another_run_joins)
unfolding play another_run_joins
another_run_joins_holds = refl

order_of_entry_holds : Holds (deck_row order_of_entry)
unfolding play order_of_entry
order_of_entry_holds = refl

equal_savings_holds : Holds (deck_row equal_savings)
unfolding play equal_savings
equal_savings_holds = refl

greatest_saving_holds : Holds (deck_row greatest_saving)
unfolding play greatest_saving
greatest_saving_holds = refl

lower_end_first_holds : Holds (deck_row lower_end_first)
unfolding play lower_end_first
lower_end_first_holds = refl

octant_border_holds : Holds (deck_row octant_border)
unfolding play octant_border
octant_border_holds = refl

refusals_holds : Holds (deck_row refusals)
unfolding play refusals
refusals_holds = refl

three_on_aLine_holds : Holds (deck_row three_on_aLine)
unfolding play three_on_aLine
three_on_aLine_holds = refl

two_on_one_x_holds : Holds (deck_row two_on_one_x)
unfolding play two_on_one_x
two_on_one_x_holds = refl

middle_is_pin_holds : Holds (deck_row middle_is_pin)
unfolding play middle_is_pin
middle_is_pin_holds = refl

tap_off_middle_holds : Holds (deck_row tap_off_middle)
unfolding play tap_off_middle
tap_off_middle_holds = refl

deck11_holds : Holds deck11
unfolding octants deck11
deck11_holds = refl

-- Facts one behind the other, as `Each` asks for them.
infixr 2 ◌and◌
◌and◌ : {A B : Type 0} → A → B → A × B
◌and◌ a b = (a, b)

pub decks_hold : Each Holds table
unfolding table half_around deck11 other_start other_count too_long sections_apart byte_behind uneven_section uneven_runs pin_too_many pin_twice
    beyond_range tap_on_pin
    run_turned tap_of_two_runs other_tree full_file plain_file box_of_line box_of_two_on_one_x box_of_middle_pin box_of_tap_off_middle
    box_around_origin
decks_hold =
    deck1_holds and deck2_holds and deck3_holds and deck4_holds and deck5_holds and deck6_holds and deck7_holds and deck8_holds
    and deck9_holds and deck10_holds and deck11_holds and swept_by_its_round_holds and sweep_order_holds and line_of_tap_holds
    and second_removal_holds and another_run_joins_holds and order_of_entry_holds and equal_savings_holds and greatest_saving_holds
    and lower_end_first_holds and octant_border_holds and refusals_holds
    and three_on_aLine_holds and two_on_one_x_holds and middle_is_pin_holds and tap_off_middle_holds
    and refl and refl and refl and refl and refl
    and other_start_holds and other_count_holds and too_long_holds
    and sections_apart_holds and byte_behind_holds and uneven_section_holds and uneven_runs_holds and pin_too_many_holds
    and pin_twice_holds and beyond_range_holds and tap_on_pin_holds and run_turned_holds and tap_of_two_runs_holds and other_tree_holds
    and full_file_holds and plain_file_holds and tt

pub decks_filed : Each Filed table
unfolding table filed deck1 deck2 deck3 deck4 deck5 deck6 deck7 deck8 deck9 deck10 deck11 swept_by_its_round sweep_order line_of_tap second_removal
    another_run_joins order_of_entry equal_savings greatest_saving lower_end_first octant_border refusals other_start other_count too_long sections_apart
    byte_behind uneven_section uneven_runs pin_too_many pin_twice beyond_range tap_on_pin run_turned tap_of_two_runs other_tree full_file plain_file
    three_on_aLine two_on_one_x middle_is_pin tap_off_middle box_of_line box_of_two_on_one_x box_of_middle_pin box_of_tap_off_middle box_around_origin
decks_filed =
    refl and refl and refl and refl and refl and refl and refl and refl and refl and refl and tt
    and refl and refl and refl and refl and refl and refl and refl and refl and refl and refl and refl and refl and refl and refl and refl
    and tt and tt and tt and tt and tt
    and tt and tt and tt and tt and tt and tt and tt and tt and tt and tt and tt and tt and tt and tt and tt and tt and tt

-- The example of a listing, by computation.
pub example_listing : ExampleListing
unfolding listing_answer example_file example_text
example_listing = refl

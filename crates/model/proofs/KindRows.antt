-- The rows of the table on kinds, each by computation, and the files of the last contents of its rows of calls.
use mathlib.Core.Path.{refl}
use Rattle.arrays.specs.Set.{Each}
use Rattle.model.specs.Decks.{Holds, Filed, play, reads, filed, lengths_of}
use Rattle.model.specs.TableKinds.{kind_table, kinds_move, tap_becomes_display, kind_refusals, kinds_file, plain_kinds_file, pair_missing, starts_early}
use Rattle.model.specs.TableKinds.{many_taps, run_turned_beside_kind, kind_above, kind_too_few, kind_too_many, sensors_in_four, no_pin_in_four}
use Rattle.model.specs.TableKinds.{plain_kind_above, plain_kind_too_few, plain_kind_too_many, plain_sensors_in_four, too_long_of_four}
use Rattle.model.specs.TableKinds.{displays_over_tap, kinds_in_line, one_controller, no_device}

-- Facts one behind the other, as `Each` asks for them.
infixr 2 ◌and◌
◌and◌ : {A B : Type 0} → A → B → A × B
◌and◌ a b = (a, b)

pub kinds_hold : Each Holds kind_table
unfolding play reads lengths_of kind_table kinds_move tap_becomes_display kind_refusals kinds_file plain_kinds_file pair_missing starts_early many_taps
    run_turned_beside_kind
    kind_above kind_too_few kind_too_many sensors_in_four no_pin_in_four plain_kind_above plain_kind_too_few plain_kind_too_many plain_sensors_in_four
    too_long_of_four
    displays_over_tap kinds_in_line one_controller no_device
kinds_hold =
    refl and refl and refl and refl and refl and refl and refl and refl and refl and refl and refl and refl and refl and refl
    and refl and refl and refl and refl and refl and refl and refl and refl and refl and tt

pub kinds-filed : Each Filed kind_table
unfolding filed kind_table kinds_move tap_becomes_display kind_refusals kinds_file plain_kinds_file pair_missing starts_early many_taps run_turned_beside_kind
    kind_above kind_too_few kind_too_many sensors_in_four no_pin_in_four plain_kind_above plain_kind_too_few plain_kind_too_many plain_sensors_in_four
    too_long_of_four
    displays_over_tap kinds_in_line one_controller no_device
kinds-filed =
    refl and refl and refl and tt and tt and tt and tt and tt and tt and tt and tt and tt and tt and tt and tt and tt and tt and tt and tt
    and refl and refl and refl and refl and tt

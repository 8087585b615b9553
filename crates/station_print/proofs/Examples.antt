-- Texts computed: a line for each kind of fault, of a shift that is bytes and of one that is text, and what was reached. The settings are `~a b ~c ~d`, valuation 2.
use mathlib.Core.Path.{◌≡◌, refl}
use mathlib.Core.List.{[]}
use Rattle.ground.specs.Digits.{digit, bit}
use Rattle.ground.specs.Text.{bytes}
use Rattle.knowledge_acts.specs.Acts.{act_of}
use Rattle.book_sound.specs.Sound.{in_order}
use Rattle.print_room.specs.Decimal.{decimal}
use Rattle.station_text.specs.Records.{is_record, record_text}
use Rattle.sheet_words.specs.Words.{onto, split, among, begins}
use Rattle.plancheck_text.specs.Lines.{stands_for, has_form}
use Rattle.station_text.specs.Lines.{is_look, is_set, gives_record, records_in}
use Rattle.station_text.specs.Meaning.{is_text, line_of}
use Rattle.station_print.specs.Settings.{setting_names, setting_words}
use Rattle.station_print.specs.Faults.{place_text, record_words, fault_text}
use Rattle.station_print.specs.Printed.{reached_text}

-- 28
pub set_barred : fault_text [] 3 81 0 28 4 2 ≡ bytes "act 3, set d 1 1: not permitted where a is off, b on, c off, d off\n"
unfolding fault_text place_text is_text begins record_words is_record record_text act_of setting_words in_order bit digit decimal
set_barred = refl

-- 29
pub look_disagrees : fault_text [] 3 114 1 29 4 2 ≡ bytes "act 3, look a 2 1: shows 0 where a is off, b on, c off, d off\n"
unfolding fault_text place_text is_text begins record_words is_record record_text act_of setting_words in_order bit digit decimal
look_disagrees = refl

-- 27
pub another_books : fault_text [] 3 112 0 27 4 2 ≡ bytes "act 3, set g 8 1: no record of this book\n"
unfolding fault_text place_text is_text begins record_words is_record record_text act_of setting_words in_order bit digit decimal
another_books = refl

pub no_words : fault_text [] 3 200 7 27 4 2 ≡ bytes "act 3, bytes 200 7: no record of this book\n"
unfolding fault_text place_text is_text begins record_words is_record record_text act_of setting_words in_order bit digit decimal
no_words = refl

-- with its line, where the shift is text
pub line_said : fault_text (bytes "# night\n\nlook a 1 0\nset d 1 1\n") 1 81 0 28 4 2 ≡ bytes "act 1, line 4, set d 1 1: not permitted where a is off, b on, c off, d off\n"
unfolding fault_text place_text is_text begins onto split among stands_for has_form is_look is_set gives_record records_in line_of record_words is_record record_text act_of setting_words in_order bit digit decimal
line_said = refl

-- what was reached
pub four_done : reached_text 4 (record { present = record { 0 = 10 }; count = 4 }) ≡ bytes "done 4\nnow ~a b ~c d\n"
unfolding reached_text setting_names in_order bit digit decimal
four_done = refl

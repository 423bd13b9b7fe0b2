-- What is printed of a refusal, with the place of its word and without one, and of a book that is not read. Numbers are decimal.
use Rattle.std.specs.Prelude.{◌++◌, List, ℕ, codes, decimal}
use Rattle.refusal.specs.declared.Fault.{Fault}
use Rattle.refusal.specs.declared.Refused.{Refused}
use Rattle.refusal.specs.declared.Unread.{Unread}
use Rattle.refusal.specs.declared.Unread.TheVariants as unread
use Rattle.refusal.specs.Numbers.{number, sentence}

abbrev pub refused_text : Refused → List ℕ
refused_text r = codes "refused: " ++ decimal (number r.refusal) ++ codes ": " ++ sentence r.refusal

abbrev pub fault_text : Fault → List ℕ
fault_text f =
    codes "refused: " ++ decimal (number f.refusal) ++ codes " at word " ++ decimal f.place
    ++ codes ": " ++ sentence f.refusal

abbrev pub unread_text : Unread → List ℕ
unread_text (unread.Refused f) = fault_text f
unread_text (unread.Memory e) = codes "not read: there is not enough memory"

-- What the table of functions says of them: all that is known but how deep they are.
use Rattle.std.specs.Prelude.{ℕ, Bool, false, not, ◌==◌, ◌&&◌, ◌||◌, List, map, Option, Some, None}
use Rattle.txs_value_data.specs.Places.{nth}
use Rattle.txs_value_cell.specs.Forms.{rule}
use Rattle.txs_value_cell.specs.declared.form.CellForm.TheVariants as form_of
use Rattle.txs_value_cell.specs.declared.form.Standing.{Standing}
use Rattle.txs_value_cell.specs.declared.form.Standing.TheVariants.{Outside}
use Rattle.txs_tree_meaning.specs.Known.{Known, only_inside, only_outside, is_inside, is_outside, is_pure, inside_in, any_inside, outside_in, any_outside, pure_in, all_pure}
use Rattle.txs_tree_meaning.specs.Tree.{Tree, Const, Local, If, Do, Let, Loop, Recur, Core, Call, VectorOf, Println, Dosync, Look, Put, Update, Send, Trees}
use Rattle.txs_check.specs.declared.class.Class.{Class}
use Rattle.txs_check.specs.declared.class.Signature.{Signature}

-- what two parts are together
abbrev pub joined : Class → Class → Class
joined a b = record { inside = a.inside || b.inside; outside = a.outside || b.outside; pure = a.pure && b.pure }

-- what a body is
abbrev pub class_in : List Known → Tree → Class
class_in ks e = record { inside = inside_in ks e; outside = outside_in ks e; pure = pure_in ks e }

-- what parts in a row are together
abbrev pub class_in_all : List Known → Trees → Class
class_in_all ks es = record { inside = any_inside ks es; outside = any_outside ks es; pure = all_pure ks es }

-- what is placed so: no form on a cell is pure
abbrev pub class_standing : Standing → Class
class_standing s = record { inside = only_inside s; outside = only_outside s; pure = false }

-- what a call is
abbrev pub class_known : Option Known → Class
class_known k = record { inside = is_inside k; outside = is_outside k; pure = is_pure k }

-- what a form is whose parts are this together
abbrev pub class_above : List Known → Tree → Class → Class
class_above ks (Const v m) parts = parts
class_above ks (Local i m) parts = parts
class_above ks (If c a b m) parts = parts
class_above ks (Do items m) parts = parts
class_above ks (Let values body m) parts = parts
class_above ks (Loop values body m) parts = parts
class_above ks (Recur values m) parts = parts
class_above ks (Core op args m) parts = parts
class_above ks (Call f args m) parts = joined (class_known (nth ks f)) parts
class_above ks (VectorOf items m) parts = parts
class_above ks (Println args m) parts = joined (class_standing Outside) parts
class_above ks (Dosync body m) parts = record { inside = false; outside = parts.outside; pure = false }
class_above ks (Look form cell m) parts = joined (class_standing (rule (form_of.Look form)).stands) parts
class_above ks (Put form cell value m) parts = joined (class_standing (rule (form_of.Put form)).stands) parts
class_above ks (Update form cell callee args m) parts = joined (class_standing (rule (form_of.Update form)).stands) parts
class_above ks (Send cell callee args m) parts = joined (class_standing (rule form_of.Send).stands) parts

-- what a row of the table says, where no levels are counted
abbrev pub known_row : Signature → Known
known_row s = record { parameters = s.parameters; inside = s.class.inside; outside = s.class.outside; pure = s.class.pure; levels = 0 }

-- what the row says, if there is one
abbrev pub known_if : Option Signature → Option Known
known_if None = None
known_if (Some s) = Some (known_row s)

-- what the whole table says
abbrev pub known_as : List Signature → List Known
known_as ss = map known_row ss

-- the same without levels
abbrev pub bare_one : Known → Known
bare_one k = record { parameters = k.parameters; inside = k.inside; outside = k.outside; pure = k.pure; levels = 0 }

-- what is known of functions, without levels
abbrev pub bare : List Known → List Known
bare ks = map bare_one ks

-- whether a function is pure and takes so many values; no function is
abbrev pub is_pure_taking : Option Known → ℕ → Bool
is_pure_taking None n = false
is_pure_taking (Some k) n = k.parameters == n && k.pure

-- whether the function of this number is pure and takes so many values
abbrev pub is_pure_call : List Known → ℕ → ℕ → Bool
is_pure_call ks f n = is_pure_taking (nth ks f) n

-- whether a function takes so many values and isn't for transactions alone; no function does
abbrev pub is_sent_taking : Option Known → ℕ → Bool
is_sent_taking None n = false
is_sent_taking (Some k) n = k.parameters == n && not k.inside

-- whether the function of this number may be sent to so many values
abbrev pub is_sent_call : List Known → ℕ → ℕ → Bool
is_sent_call ks f n = is_sent_taking (nth ks f) n

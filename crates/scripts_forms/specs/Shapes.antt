-- How instructions are written: the table of the forms, each as a list of items. The reader of a line and the
-- printer of a listing line both go by it. Source: own; the words follow the programming guide of the SYM53C810A.
use Rattle.std.specs.Prelude.{◌≡◌, ℕ, nat_eq, ◌+◌, ◌||◌, Bool, true, false, if◌then◌else◌, List, [], ◌∷◌, ◌++◌}
use Rattle.scripts_ops.specs.declared.values.Change.{Change}
use Rattle.scripts_ops.specs.declared.values.Change.TheVariants as change
use Rattle.scripts_forms.specs.declared.words.Key.{Key}
use Rattle.scripts_forms.specs.declared.words.Key.TheVariants as keys
use Rattle.scripts_forms.specs.declared.words.Word.{Word}
use Rattle.scripts_forms.specs.declared.words.Word.TheVariants as word
use Rattle.scripts_forms.specs.declared.shapes.On.{On}
use Rattle.scripts_forms.specs.declared.shapes.On.TheVariants as ons
use Rattle.scripts_forms.specs.declared.shapes.Flags.{Flags}
use Rattle.scripts_forms.specs.declared.shapes.Flags.TheVariants as flagsets
use Rattle.scripts_forms.specs.declared.shapes.Shape.{Shape}
use Rattle.scripts_forms.specs.declared.shapes.Shape.TheVariants.{Move, MoveFrom, MoveMemory, Modify, Put, Select, WaitDisconnect, WaitReselect, Set, Clear, Jump, Call, Return, Int, IntFly, Nop, Load, Store}
use Rattle.scripts_forms.specs.declared.shapes.Item.{Item}
use Rattle.scripts_forms.specs.declared.shapes.Item.TheVariants.{Fixed, Mark, Value}

-- A word of the forms.
abbrev pub key : Key → Item
key k = Fixed (word.Key k)

abbrev pub comma : Item
comma = Mark 44

-- Values: a byte, 24 bits (a count, or an offset as its 24 bits), 32 bits.
abbrev pub byte : Item
byte = Value 0xff

abbrev pub offset : Item
offset = Value 0xffffff

abbrev pub address : Item
address = Value 0xffffffff

-- `|`, `&` and `+`.
abbrev pub change_mark : Change → ℕ
change_mark change.Or = 124
change_mark change.And = 38
change_mark change.Add = 43

abbrev pub negation : Bool → List Item
negation true = key keys.Not ∷ []
negation false = []

abbrev pub mask : Bool → List Item
mask true = key keys.And ∷ key keys.Mask ∷ byte ∷ []
mask false = []

-- Nothing, `, WHEN p`, `, IF p`, `, IF d` or `, IF d AND MASK d`, the last four with an optional NOT before what is compared.
abbrev pub condition : On → List Item
condition ons.Always = []
condition (ons.Phase when not code) = comma ∷ key (if when then keys.When else keys.If) ∷ negation not ++ Fixed (word.Phase code) ∷ []
condition (ons.Byte not masked) = comma ∷ key keys.If ∷ negation not ++ byte ∷ mask masked

abbrev pub flag_items : Flags → List Item
flag_items flagsets.Ack = key keys.Ack ∷ []
flag_items flagsets.Atn = key keys.Atn ∷ []
flag_items flagsets.Both = key keys.Ack ∷ key keys.And ∷ key keys.Atn ∷ []

-- A register as LOAD and STORE write it: byte 0 by the name of the whole register.
abbrev pub wide_word : ℕ → Word
wide_word r = if nat_eq r 0x10 || nat_eq r 0x1c || nat_eq r 0x34 || nat_eq r 0x5c then word.Whole r else word.Register r

abbrev pub register : ℕ → Item
register r = Fixed (word.Register r)

abbrev pub place : Bool → List Item
place true = key keys.From ∷ offset ∷ []
place false = address ∷ []

-- LOAD and STORE: a register, a count of at most 4 (a field of three bits), and a place in memory.
abbrev pub pointer : Key → ℕ → Bool → List Item
pointer k r from_dsa = key k ∷ Fixed (wide_word r) ∷ comma ∷ Value 7 ∷ comma ∷ place from_dsa

-- A line for each form.
abbrev pub items : Shape → List Item
items (Move p) = key keys.Move ∷ offset ∷ comma ∷ address ∷ comma ∷ key keys.When ∷ Fixed (word.Phase p) ∷ []
items (MoveFrom p) = key keys.Move ∷ key keys.From ∷ offset ∷ comma ∷ key keys.When ∷ Fixed (word.Phase p) ∷ []
items MoveMemory = key keys.Move ∷ key keys.Memory ∷ offset ∷ comma ∷ address ∷ comma ∷ address ∷ []
items (Modify r c s) = key keys.Move ∷ register r ∷ Mark (change_mark c) ∷ byte ∷ key keys.To ∷ register s ∷ []
items (Put r) = key keys.Move ∷ byte ∷ key keys.To ∷ register r ∷ []
items Select = key keys.Select ∷ key keys.Atn ∷ key keys.From ∷ offset ∷ comma ∷ address ∷ []
items WaitDisconnect = key keys.Wait ∷ key keys.Disconnect ∷ []
items WaitReselect = key keys.Wait ∷ key keys.Reselect ∷ address ∷ []
items (Set f) = key keys.Set ∷ flag_items f
items (Clear f) = key keys.Clear ∷ flag_items f
items (Jump on) = key keys.Jump ∷ address ∷ condition on
items (Call on) = key keys.Call ∷ address ∷ condition on
items (Return on) = key keys.Return ∷ condition on
items (Int on) = key keys.Int ∷ address ∷ condition on
items (IntFly on) = key keys.IntFly ∷ condition on
items Nop = key keys.Nop ∷ []
items (Load r from_dsa) = pointer keys.Load r from_dsa
items (Store r from_dsa) = pointer keys.Store r from_dsa

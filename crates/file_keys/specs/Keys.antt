-- The keys of a table. A schema is a list of `Key`: the name, the values that it takes, and the default. What a table says
-- at a key and what is wrong there are both defined from the key, so that a schema stands once.
-- Own: which values a key takes, and in which order faults count, is this project's. What a text says is `toml`'s.
use Rattle.std.specs.Prelude.{ℕ, suc, ℤ, pos, negsuc, Bool, true, ◌&&◌, ◌||◌, ◌*◌, ◌-◌, ◌^◌, length, nat_le, List, [], ◌∷◌, ◌++◌, codes, map, ◌+◌, Option, Some, None, option_map, is_some, unwrap_or, if◌then◌else◌}
use Rattle.std.specs.List.{list_any}
use Rattle.std.specs.Str.{bytes_eq}
use Rattle.std.specs.Fmt.{decimal}
use Rattle.std.specs.Ordering.{nat_cmp, is_lt}
use Rattle.std.specs.Cmp.Lexicographic.{slice_cmp}
use Rattle.rig_types.specs.declared.fault.BadKind.{BadKind}
use Rattle.rig_types.specs.declared.fault.BadKind.TheVariants.{Missing, WrongType, OutOfRange, Unknown}
use Rattle.toml.specs.Data.{Data, table, Items, no_items, item, Members, no_members, member, get_member, as_integer, as_bool, as_str, as_array, as_table}
use Rattle.file_keys.specs.Faults.{Fault, at, earlier}

-- ---- schemas

-- The values that a key takes: a number from the first to the second; one of these words; true or false; a list of so many
-- entries, from the first to the second; a text of at most so many bytes, each two hexadecimal digits of either case.
pub data Values : Type 0 where
  number : ℕ → ℕ → Values
  choice : List (List ℕ) → Values
  flag : Values
  list : ℕ → ℕ → Values
  hex : ℕ → Values

-- a key of a table, with what it says where it is absent; without a default it is missing there. As a default a number is
-- itself, a word is its place, a flag is 1 where it is true, and 0 is the empty list.
pub record Key : Type 0 where
  pub name : List ℕ
  pub values : Values
  pub default : Option ℕ

abbrev pub number_key : List ℕ → ℕ → ℕ → Option ℕ → Key
number_key name least most default = record { name = name; values = number least most; default = default }

abbrev pub choice_key : List ℕ → List (List ℕ) → Option ℕ → Key
choice_key name words default = record { name = name; values = choice words; default = default }

abbrev pub flag_key : List ℕ → Option ℕ → Key
flag_key name default = record { name = name; values = flag; default = default }

abbrev pub list_key : List ℕ → ℕ → ℕ → Option ℕ → Key
list_key name least most default = record { name = name; values = list least most; default = default }

abbrev pub hex_key : List ℕ → ℕ → Key
hex_key name most = record { name = name; values = hex most; default = None }

-- a list with no upper bound on its entries
abbrev pub any_list_key : List ℕ → Key
any_list_key name = list_key name 0 (2 ^ 64 - 1) (Some 0)

-- the names of a schema's keys
abbrev pub names_of : List Key → List (List ℕ)
names_of keys = map (λ (k : Key). k.name) keys

-- ---- what is wrong with a value

abbrev pub count : Items → ℕ
count no_items = 0
count (item d ds) = suc (count ds)

abbrev pub in_range : Bool → Option BadKind
in_range b = if b then None else Some OutOfRange

abbrev pub number_fault : ℕ → ℕ → Option ℤ → Option BadKind
number_fault least most None = Some WrongType
number_fault least most (Some (pos n)) = in_range (nat_le least n && nat_le n most)
number_fault least most (Some (negsuc n)) = Some OutOfRange

-- the place of a word among words that begin at n
abbrev pub place_from : ℕ → List (List ℕ) → List ℕ → Option ℕ
place_from n [] s = None
place_from n (w ∷ words) s = if bytes_eq w s then Some n else place_from (n + 1) words s

abbrev pub place_of : List (List ℕ) → List ℕ → Option ℕ
place_of words s = place_from 0 words s

abbrev pub choice_fault : List (List ℕ) → Option (List ℕ) → Option BadKind
choice_fault words None = Some WrongType
choice_fault words (Some s) = in_range (is_some (place_of words s))

abbrev pub flag_fault : Option Bool → Option BadKind
flag_fault None = Some WrongType
flag_fault (Some b) = None

abbrev pub list_fault : ℕ → ℕ → Option Items → Option BadKind
list_fault least most None = Some WrongType
list_fault least most (Some ds) = in_range (nat_le least (count ds) && nat_le (count ds) most)

abbrev pub is_hex : ℕ → Bool
is_hex c = (nat_le 48 c && nat_le c 57) || ((nat_le 65 c && nat_le c 70) || (nat_le 97 c && nat_le c 102))

abbrev pub hex_digit : ℕ → ℕ
hex_digit c = if nat_le c 57 then c - 48 else if nat_le c 70 then c - 55 else c - 87

-- the bytes that pairs of hexadecimal digits spell
abbrev pub hex_of : List ℕ → Option (List ℕ)
hex_of [] = Some []
hex_of (a ∷ []) = None
hex_of (a ∷ b ∷ rest) = if is_hex a && is_hex b then option_map (λ (bs : List ℕ). (16 * hex_digit a + hex_digit b) ∷ bs) (hex_of rest) else None

abbrev pub hex_fault : ℕ → Option (List ℕ) → Option BadKind
hex_fault most None = Some WrongType
hex_fault most (Some s) = in_range (nat_le (length s) (2 * most) && is_some (hex_of s))

abbrev pub values_fault : Values → Data → Option BadKind
values_fault (number least most) d = number_fault least most (as_integer d)
values_fault (choice words) d = choice_fault words (as_str d)
values_fault flag d = flag_fault (as_bool d)
values_fault (list least most) d = list_fault least most (as_array d)
values_fault (hex most) d = hex_fault most (as_str d)

-- what is wrong with what a table has at a key
abbrev pub held_fault : Key → Option Data → Option BadKind
held_fault key None = if is_some key.default then None else Some Missing
held_fault key (Some d) = values_fault key.values d

abbrev pub key_fault : List ℕ → Key → Members → Option Fault
key_fault prefix key ms = option_map (at (prefix ++ key.name)) (held_fault key (get_member key.name ms))

-- ---- what a value says

abbrev pub natural : Option ℤ → ℕ
natural (Some (pos n)) = n
natural _ = 0

abbrev pub bit : Option Bool → ℕ
bit (Some true) = 1
bit _ = 0

-- a number is itself, a word is its place, a flag is 0 or 1
abbrev pub meaning : Values → Data → ℕ
meaning (number least most) d = natural (as_integer d)
meaning (choice words) d = unwrap_or (place_of words (unwrap_or (as_str d) [])) 0
meaning flag d = bit (as_bool d)
meaning (list least most) d = 0
meaning (hex most) d = 0

abbrev pub held_value : Key → Option Data → ℕ
held_value key None = unwrap_or key.default 0
held_value key (Some d) = meaning key.values d

abbrev pub value_of : Key → Members → ℕ
value_of key ms = held_value key (get_member key.name ms)

abbrev pub held_items : Option Data → Items
held_items None = no_items
held_items (Some d) = unwrap_or (as_array d) no_items

-- the entries of a list
abbrev pub items_of : Key → Members → Items
items_of key ms = held_items (get_member key.name ms)

-- the bytes of a text of hexadecimal digits
abbrev pub held_bytes : Option Data → List ℕ
held_bytes None = []
held_bytes (Some d) = unwrap_or (hex_of (unwrap_or (as_str d) [])) []

abbrev pub bytes_of : Key → Members → List ℕ
bytes_of key ms = held_bytes (get_member key.name ms)

-- ---- unknown keys

-- a key is one of these
abbrev pub is_among : List (List ℕ) → List ℕ → Bool
is_among names k = list_any (λ n. bytes_eq n k) names

-- the lesser of two keys, by their bytes
abbrev pub lesser : List ℕ → Option (List ℕ) → List ℕ
lesser k None = k
lesser k (Some l) = if is_lt (slice_cmp nat_cmp l k) then l else k

-- the least key of a table, by its bytes, that is none of these
abbrev pub least_unknown : List (List ℕ) → Members → Option (List ℕ)
least_unknown names no_members = None
least_unknown names (member k d ms) = if is_among names k then least_unknown names ms else Some (lesser k (least_unknown names ms))

abbrev pub unknown_fault : List ℕ → List (List ℕ) → Members → Option Fault
unknown_fault prefix names ms = option_map (λ k. at (prefix ++ k) Unknown) (least_unknown names ms)

-- ---- entries of lists

-- the key of an entry, as `unit[2]`
abbrev pub entry_key : List ℕ → List ℕ → ℕ → List ℕ
entry_key prefix name n = prefix ++ name ++ codes "[" ++ decimal n ++ codes "]"

-- what stands before the keys of an entry's table, as `unit[2].`
abbrev pub prefix_of : List ℕ → List ℕ → ℕ → List ℕ
prefix_of prefix name n = prefix ++ name ++ codes "[" ++ decimal n ++ codes "]."

-- an entry that should be a table isn't one
abbrev pub entry_fault : List ℕ → List ℕ → ℕ → Data → Option Fault
entry_fault prefix name n d = if is_some (as_table d) then None else Some (at (entry_key prefix name n) WrongType)

-- the table that an entry is
abbrev pub members_in : Data → Members
members_in (table ms) = ms
members_in _ = no_members

-- the first fault of entries, of which the first is the n-th
abbrev pub entries_fault : (ℕ → Data → Option Fault) → ℕ → Items → Option Fault
entries_fault f n no_items = None
entries_fault f n (item d ds) = earlier (f n d) (entries_fault f (n + 1) ds)

-- what the entries say
abbrev pub entries_of : {A : Type 0} → (Data → A) → Items → List A
entries_of f no_items = []
entries_of f (item d ds) = f d ∷ entries_of f ds

-- The records of a file: a table of marks and body lengths, what reading one gives, and what it is to read a whole file.
use Rattle.std.specs.Prelude.{◌≡◌, ℕ, ◌<◌, ◌≤◌, ◌&&◌, ◌⊎◌, List, [], ◌∷◌, ◌++◌, length, take, drop, Some, None, Ok, Err, Option, Result, ◌==◌, ◌≢◌, nat_le, if◌then◌else◌}
use Rattle.std.specs.List.{ContainsAt as Has, flat_map, AllByRecursion}
use Rattle.orders.specs.declared.kind.Kind.{Kind}
use Rattle.orders.specs.declared.kind.Kind.TheVariants.{Lk, Sz, Dr, St, Pl}
use Rattle.orders.specs.declared.record.RecordFault.{RecordFault}
use Rattle.orders.specs.declared.record.RecordFault.TheVariants.{Short, Unknown}

-- Why reading stops: a fault, or none at the end of the bytes.
abbrev pub Stop : Type 0
Stop = Option RecordFault

-- A line of a table: a kind of record, the two bytes of its mark and the length of its body.
pub record Entry (K : Type 0) : Type 0 where
  pub kind : K
  pub first : ℕ
  pub second : ℕ
  pub long : ℕ

-- The marks are the ASCII letters LK, SZ, DR, ST and PL, and each kind has bodies of one length.
abbrev pub entry : Kind → Entry Kind
entry Lk = record { kind = Lk; first = 76; second = 75; long = 6 }
entry Sz = record { kind = Sz; first = 83; second = 90; long = 6 }
entry Dr = record { kind = Dr; first = 68; second = 82; long = 2 }
entry St = record { kind = St; first = 83; second = 84; long = 4 }
entry Pl = record { kind = Pl; first = 80; second = 76; long = 0 }

-- The table of an order file.
abbrev pub orders : List (Entry Kind)
orders = entry Lk ∷ entry Sz ∷ entry Dr ∷ entry St ∷ entry Pl ∷ []

-- A record in a file: a line of the table, and a body.
pub record Item (K : Type 0) : Type 0 where
  pub entry : Entry K
  pub body : List ℕ

-- A record's bytes are its mark and then its body.
abbrev pub bytes : {K : Type 0} → Item K → List ℕ
bytes i = i.entry.first ∷ i.entry.second ∷ i.body

-- The first line of a table with this mark.
abbrev pub lookup : {K : Type 0} → List (Entry K) → ℕ → ℕ → Option (Entry K)
lookup [] a b = None
lookup (e ∷ es) a b = if a == e.first && b == e.second then Some e else lookup es a b

-- What the bytes after a mark give: a body of the mark's length, where there are enough.
abbrev pub cut : {K : Type 0} → Option (Entry K) → List ℕ → Result (Item K) Stop
cut None bs = Err (Some Unknown)
cut (Some e) bs = if nat_le e.long (length bs) then Ok (record { entry = e; body = take e.long bs }) else Err (Some Short)

-- What reading gives where these bytes are left: the record at their front, or why there is none.
abbrev pub read : {K : Type 0} → List (Entry K) → List ℕ → Result (Item K) Stop
read table [] = Err None
read table (a ∷ []) = Err (Some Short)
read table (a ∷ b ∷ bs) = cut (lookup table a b) bs

-- How many bytes a reading takes: those of the record, and none where it stops.
abbrev pub taken : {K : Type 0} → Result (Item K) Stop → ℕ
taken (Ok i) = length (bytes i)
taken (Err stop) = 0

-- A record that stands in the table, with a body of its length.
pub record Known {K : Type 0} (table : List (Entry K)) (i : Item K) : Type 0 where
  pub listed : Has table i.entry
  pub whole : length i.body ≡ i.entry.long

-- A known record stands at the front of these bytes.
abbrev pub Begins : {K : Type 0} → List (Entry K) → List ℕ → Type 0
Begins {K} table bs = (i : Item K) × (after : List ℕ) × Known table i × (bs ≡ bytes i ++ after)

-- The fault that bytes without a known record at their front deserve: short for one byte or a known mark with too few bytes after it, unknown for two or more bytes with no known mark.
abbrev pub Deserve : {K : Type 0} → List (Entry K) → List ℕ → RecordFault → Type 0
Deserve {K} table bs Short = (length bs ≡ 1) ⊎ ((e : Entry K) × (after : List ℕ) × Has table e × (bs ≡ e.first ∷ e.second ∷ after) × (length after < e.long))
Deserve {K} table bs Unknown = (2 ≤ length bs) × ((e : Entry K) (after : List ℕ) → Has table e → bs ≢ e.first ∷ e.second ∷ after)

-- Reading stops before these bytes: there are none, or no known record stands at their front and the fault is what they deserve.
abbrev pub Stops : {K : Type 0} → List (Entry K) → List ℕ → Stop → Type 0
Stops table bs None = bs ≡ []
Stops table bs (Some f) = (Begins table bs → ⊥) × Deserve table bs f

-- The file is these records' bytes one after another and then a rest, before which reading stops.
pub record ReadAs {K : Type 0} (table : List (Entry K)) (file : List ℕ) (items : List (Item K)) (stop : Stop) : Type 0 where
  pub rest : List ℕ
  pub joins : file ≡ flat_map bytes items ++ rest
  pub known : AllByRecursion (Known table) items
  pub stops : Stops table rest stop

-- The file up to this place is these records' bytes one after another.
pub record ReadUpTo {K : Type 0} (table : List (Entry K)) (file : List ℕ) (items : List (Item K)) (place : ℕ) : Type 0 where
  pub joins : file ≡ flat_map bytes items ++ drop place file
  pub long : place ≡ length (flat_map bytes items)
  pub known : AllByRecursion (Known table) items

-- Every file is read in one way and no other.
abbrev pub ReadOnce : {K : Type 0} → List (Entry K) → Type 0
ReadOnce {K} table = (file : List ℕ) →
    ((items : List (Item K)) × (stop : Stop) × ReadAs table file items stop)
    × ((items others : List (Item K)) (stop other : Stop) → ReadAs table file items stop → ReadAs table file others other → (items ≡ others) × (stop ≡ other))

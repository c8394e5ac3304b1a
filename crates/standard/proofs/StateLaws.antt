-- Each step of the cipher takes states to states, and each but MixColumns is undone. Assumes nothing.
use Rattle.std.proofs.Common.{◌≡◌, ℕ, zero, suc, ◌*◌, ◌%◌, ◌<◌, List, [], ◌∷◌, map, length, get_or, sym, refl, ◌∙◌, ap₂, arith}
use lib.Bits.{bit_xor, xor_lt}
use Rattle.std.specs.List.{range_with_len}
use Rattle.std.proofs.lemmas.List.{length-map}
use Rattle.std.proofs.lemmas.List.FromFn.{fill_by_all}
use Rattle.std.proofs.lemmas.Simd.{length-zip2}
use Rattle.standard.specs.Field.{SBox, InvSBox}
use Rattle.standard.specs.Cipher.{SubBytes, ShiftRows, AddRoundKey, InvSubBytes, InvShiftRows}
use Rattle.standard.specs.Kinds.{sixteen}
use Rattle.standard.specs.States.{Bytes, State}
use Rattle.standard.proofs.BitLaws.{xor_undo}
use Rattle.standard.proofs.FieldLaws.{SBox_byte, InvSBox_byte, InvSBox_SBox, SBox_InvSBox}

-- ---- bytes of a list
pub bytes_at : (xs : List ℕ) → Bytes xs → (j : ℕ) → get_or xs j 0 < 256
bytes_at [] h j = omega arith
bytes_at (x ∷ xs) h zero = h.0
bytes_at (x ∷ xs) h (suc j) = bytes_at xs h.1 j

pub bytes_from : (xs : List ℕ) → ((j : ℕ) → get_or xs j 0 < 256) → Bytes xs
bytes_from [] h = tt
bytes_from (x ∷ xs) h = (h 0, bytes_from xs (λ j. h (suc j)))

pub bytes_map : (f : ℕ → ℕ) → ((j : ℕ) → f j < 256) → (js : List ℕ) → Bytes (map f js)
bytes_map f e [] = tt
bytes_map f e (j ∷ js) = (e j, bytes_map f e js)

-- a function of bytes, at each byte
pub map_bytes : (f : ℕ → ℕ) → ((v : ℕ) → v < 256 → f v < 256) → (xs : List ℕ) → Bytes xs → Bytes (map f xs)
map_bytes f e [] h = tt
map_bytes f e (x ∷ xs) h = (e x h.0, map_bytes f e xs h.1)

map_undone : (f g : ℕ → ℕ) → ((v : ℕ) → v < 256 → g (f v) ≡ v) → (xs : List ℕ) → Bytes xs → map g (map f xs) ≡ xs
map_undone f g e [] h = refl
map_undone f g e (x ∷ xs) h = ap₂ {C = List ℕ} (λ y ys. y ∷ ys) (e x h.0) (map_undone f g e xs h.1)

pub add_bytes : (xs ks : List ℕ) → Bytes xs → Bytes ks → Bytes (AddRoundKey xs ks)
add_bytes [] ks h k = tt
add_bytes (x ∷ xs) [] h k = tt
add_bytes (x ∷ xs) (y ∷ ks) h k = (xor_lt 8 x y h.0 k.0, add_bytes xs ks h.1 k.1)

add_undone : (xs ks : List ℕ) → length xs ≡ length ks → AddRoundKey (AddRoundKey xs ks) ks ≡ xs
add_undone [] ks e = refl
add_undone (x ∷ xs) [] e = absurd (omega arith)
add_undone (x ∷ xs) (y ∷ ks) e = ap₂ {C = List ℕ} (λ z zs. z ∷ zs) (xor_undo x y) (add_undone xs ks (omega arith))

-- ---- a state as sixteen bytes by number
pub sixteen_at : (xs : List ℕ) → length xs ≡ 16 → xs ≡ sixteen (λ j. get_or xs j 0)
sixteen_at xs e = fill_by_all (λ j. get_or xs j 0) xs 16 0 e (λ k h. refl)

pub sixteen_state : (b : ℕ → ℕ) → ((j : ℕ) → b j < 256) → State (sixteen b)
sixteen_state b h = (refl, bytes_map b h (range_with_len 0 16))

-- ---- states
pub sub_state : (st : List ℕ) → State st → State (SubBytes st)
sub_state st h = (length-map st SBox ∙ h.0, map_bytes SBox SBox_byte st h.1)

pub inv_sub_state : (st : List ℕ) → State st → State (InvSubBytes st)
inv_sub_state st h = (length-map st InvSBox ∙ h.0, map_bytes InvSBox InvSBox_byte st h.1)

pub shift_state : (st : List ℕ) → Bytes st → State (ShiftRows st)
shift_state st h = (refl, bytes_map (λ j. get_or st ((5 * j) % 16) 0) (λ j. bytes_at st h ((5 * j) % 16)) (range_with_len 0 16))

pub inv_shift_state : (st : List ℕ) → Bytes st → State (InvShiftRows st)
inv_shift_state st h = (refl, bytes_map (λ j. get_or st ((13 * j) % 16) 0) (λ j. bytes_at st h ((13 * j) % 16)) (range_with_len 0 16))

pub add_state : (st key : List ℕ) → State st → State key → State (AddRoundKey st key)
add_state st key h k = (length-zip2 bit_xor st key (h.0 ∙ sym k.0) ∙ h.0, add_bytes st key h.1 k.1)

-- ---- what undoes what
pub inv_sub_sub : (st : List ℕ) → Bytes st → InvSubBytes (SubBytes st) ≡ st
inv_sub_sub = map_undone SBox InvSBox InvSBox_SBox

pub sub_inv_sub : (st : List ℕ) → Bytes st → SubBytes (InvSubBytes st) ≡ st
sub_inv_sub = map_undone InvSBox SBox SBox_InvSBox

pub inv_shift_shift : (st : List ℕ) → length st ≡ 16 → InvShiftRows (ShiftRows st) ≡ st
inv_shift_shift st e = sym (sixteen_at st e)

pub shift_inv_shift : (st : List ℕ) → length st ≡ 16 → ShiftRows (InvShiftRows st) ≡ st
shift_inv_shift st e = sym (sixteen_at st e)

pub add_add : (st key : List ℕ) → State st → State key → AddRoundKey (AddRoundKey st key) key ≡ st
add_add st key h k = add_undone st key (h.0 ∙ sym k.0)

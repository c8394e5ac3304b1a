-- The lines of the archive, as bytes. Assumes nothing.
--
--   padded n                 spaces, one at least, and the digits of n; four places for these
--   gate_text i g            gate g with the index i, its kind, target and operands
--   low_text w n             the lowest n bytes of w in hexadecimal digits, the highest of them first
--   words_text ws            words whole, one after another
--   mask_line, column_line   a gate with its check
--   play_line i p            play p with the index i, its page's name and its bases
use Rattle.std.specs.Prelude.{ℕ, zero, suc, ◌*◌, ◌/◌, ◌%◌, ◌^◌, cond, List, [], ◌∷◌, ◌++◌, codes, ◌==◌, bit_xor, nat_lt}
use Rattle.std.specs.List.{flat_map}
use Rattle.bench.specs.declared.gates.Gate.{Gate}
use Rattle.bench.specs.declared.kinds.Kind.{Kind}
use Rattle.bench.specs.declared.kinds.Kind.TheVariants.{Xor, And, Or, Xnor, Nand, Nor}
use Rattle.plans.specs.declared.plays.Play.{Play}
use Rattle.plans.specs.declared.plays.Play.TheVariants.{Add, Enter, Invert, Mix, Finish, Copy, Affine, Sum, Leave, Unaffine, Unmix, Rcon1, Rcon2, Rcon3, Rcon4, Rcon5, Rcon6, Rcon7, Rcon8, Rcon9, Rcon10}
use Rattle.plans.specs.Plays.{bases_of}
use Rattle.text.specs.Text.{decimal, hex_text}

abbrev pub spaces : ℕ → List ℕ
spaces n = cond (nat_lt n 10) (codes "    ") (cond (nat_lt n 100) (codes "   ") (cond (nat_lt n 1000) (codes "  ") (codes " ")))

unfoldable pub padded : ℕ → List ℕ
padded n = spaces n ++ decimal n

abbrev pub kind_text : Kind → List ℕ
kind_text Xor = codes "  XOR "
kind_text And = codes "  AND "
kind_text Or = codes "  OR  "
kind_text Xnor = codes "  XNOR"
kind_text Nand = codes "  NAND"
kind_text Nor = codes "  NOR "

unfoldable pub gate_text : ℕ → Gate → List ℕ
gate_text i g = padded i ++ kind_text g.kind ++ padded g.target ++ padded g.first ++ padded g.second ++ codes "   "

unfoldable pub low_text : ℕ → ℕ → List ℕ
low_text w zero = []
low_text w (suc j) = hex_text ((w / 2 ^ (8 * j) % 256) ∷ []) ++ low_text w j

abbrev pub mark_text : ℕ → List ℕ
mark_text z = cond (z % 2 == 1) (codes " +1") []

-- the target holds w, and where no input is 1 it holds z
unfoldable pub mask_line : ℕ → Gate → ℕ → ℕ → ℕ → List ℕ
mask_line i g q w z = gate_text i g ++ low_text (bit_xor w z) q ++ mark_text z ++ (10 ∷ [])

abbrev pub words_text : List ℕ → List ℕ
words_text ws = flat_map (λ w. low_text w 8) ws

-- the words of the column's quarters, the highest of them first
unfoldable pub column_line : ℕ → Gate → List ℕ → List ℕ
column_line i g ws = gate_text i g ++ words_text ws ++ (10 ∷ [])

-- eight places
abbrev pub name_text : Play → List ℕ
name_text (Add bs) = codes "ADD     "
name_text (Enter bs) = codes "ENTER   "
name_text (Invert bs) = codes "INVERT  "
name_text (Mix bs) = codes "MIX     "
name_text (Finish bs) = codes "FINISH  "
name_text (Copy bs) = codes "COPY    "
name_text (Affine bs) = codes "AFFINE  "
name_text (Sum bs) = codes "SUM     "
name_text (Leave bs) = codes "LEAVE   "
name_text (Unaffine bs) = codes "UNAFFINE"
name_text (Unmix bs) = codes "UNMIX   "
name_text (Rcon1 bs) = codes "RCON_1  "
name_text (Rcon2 bs) = codes "RCON_2  "
name_text (Rcon3 bs) = codes "RCON_3  "
name_text (Rcon4 bs) = codes "RCON_4  "
name_text (Rcon5 bs) = codes "RCON_5  "
name_text (Rcon6 bs) = codes "RCON_6  "
name_text (Rcon7 bs) = codes "RCON_7  "
name_text (Rcon8 bs) = codes "RCON_8  "
name_text (Rcon9 bs) = codes "RCON_9  "
name_text (Rcon10 bs) = codes "RCON_10 "

abbrev pub bases_text : List ℕ → List ℕ
bases_text bs = flat_map padded bs

unfoldable pub play_line : ℕ → Play → List ℕ
play_line i p = padded i ++ codes "  " ++ name_text p ++ bases_text (bases_of p) ++ (10 ∷ [])

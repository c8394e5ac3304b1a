-- The pages, by their gates. Assumes nothing.
--
--   page q c gs   the bytes of a page of q sockets, c scratch numbers and the gates gs
--   xor t a b     a gate: number t becomes a XOR b; in the same way and, or, xnor, nand
use Rattle.std.specs.Prelude.{ℕ, ◌+◌, ◌/◌, ◌%◌, cond, List, [], ◌∷◌, ◌++◌, map, length}
use Rattle.std.specs.List.{range_with_len}
use Rattle.standard.specs.Bits.{bit}
use Rattle.standard.specs.KeyExpansion.{Rcon}
use Rattle.coordinates.specs.Coordinates.{to_coordinates}
use Rattle.bench.specs.declared.kinds.Kind.{Kind}
use Rattle.bench.specs.declared.kinds.Kind.TheVariants.{Xor, And, Or, Xnor, Nand, Nor}
use Rattle.bench.specs.declared.gates.Gate.{Gate}

abbrev gate : Kind → ℕ → ℕ → ℕ → Gate
gate k t a b = record { kind = k; target = t; first = a; second = b }

abbrev xor : ℕ → ℕ → ℕ → Gate
xor t a b = gate Xor t a b

abbrev and : ℕ → ℕ → ℕ → Gate
and t a b = gate And t a b

abbrev or : ℕ → ℕ → ℕ → Gate
or t a b = gate Or t a b

abbrev xnor : ℕ → ℕ → ℕ → Gate
xnor t a b = gate Xnor t a b

abbrev nand : ℕ → ℕ → ℕ → Gate
nand t a b = gate Nand t a b

abbrev pub kind_byte : Kind → ℕ
kind_byte Xor = 0
kind_byte And = 1
kind_byte Or = 2
kind_byte Xnor = 3
kind_byte Nand = 4
kind_byte Nor = 5

-- the places of the gates, each number in two bytes, high byte first
abbrev pub place_bytes : List Gate → List ℕ
place_bytes [] = []
place_bytes (g ∷ gs) =
    (g.target / 256) ∷ (g.target % 256) ∷ (g.first / 256) ∷ (g.first % 256) ∷ (g.second / 256) ∷ (g.second % 256) ∷ place_bytes gs

abbrev pub page : ℕ → ℕ → List Gate → List ℕ
page q c gs =
    (length gs / 256) ∷ (length gs % 256) ∷ (q / 256) ∷ (q % 256) ∷ (c / 256) ∷ (c % 256)
    ∷ (map (λ g. kind_byte g.kind) gs ++ place_bytes gs)

-- the second byte is added to the first
unfoldable pub add_page : List ℕ
add_page = page 2 0 (map (λ i. xor i i (8 + i)) (range_with_len 0 8))

-- a byte goes over to its coordinates
unfoldable pub enter_page : List ℕ
enter_page = page 1 13 (
    xor 8 6 4 ∷ xor 9 1 5 ∷ xor 10 3 1 ∷ xor 11 10 7 ∷ xor 12 10 8 ∷ xor 13 11 5 ∷ xor 14 11 2 ∷ xor 15 12 0 ∷
    xor 16 12 9 ∷ xor 17 15 2 ∷ xor 18 17 6 ∷ xor 19 17 10 ∷ xor 20 18 1 ∷ and 0 20 20 ∷ and 1 9 9 ∷ and 2 13 13 ∷
    and 3 15 15 ∷ and 4 18 18 ∷ and 5 14 14 ∷ and 6 16 16 ∷ and 7 19 19 ∷ [])

-- the inverse of the first byte, in coordinates, into the second
unfoldable pub own_inverter : List ℕ
own_inverter = page 2 83 (
    xor 16 0 1 ∷ xor 17 0 2 ∷ xor 18 1 3 ∷ xor 19 2 3 ∷ xor 20 16 19 ∷ xor 21 4 5 ∷ xor 22 4 6 ∷ xor 23 5 7 ∷
    xor 24 6 7 ∷ xor 25 21 24 ∷ or 26 0 4 ∷ or 27 1 5 ∷ and 28 2 6 ∷ or 29 2 6 ∷ and 30 3 7 ∷ and 31 17 22 ∷
    or 32 17 22 ∷ or 33 16 21 ∷ and 34 18 23 ∷ or 35 18 23 ∷ or 36 19 24 ∷ and 37 20 25 ∷ xor 38 26 27 ∷
    xor 39 31 35 ∷ xor 40 33 32 ∷ xor 41 26 37 ∷ xor 42 30 31 ∷ xor 43 29 37 ∷ xor 44 34 36 ∷ xor 45 28 37 ∷
    xor 46 38 39 ∷ xor 47 40 41 ∷ xor 48 42 43 ∷ xor 49 44 45 ∷ and 50 47 49 ∷ xor 51 48 50 ∷ and 52 47 51 ∷
    xor 53 47 51 ∷ xor 54 46 52 ∷ and 55 54 49 ∷ xor 56 55 51 ∷ and 57 54 56 ∷ and 58 53 56 ∷ xor 59 52 57 ∷
    xor 60 53 57 ∷ xor 61 58 49 ∷ or 62 61 59 ∷ xor 63 54 62 ∷ xor 64 60 63 ∷ xor 65 60 56 ∷ xor 66 63 61 ∷
    xor 67 56 61 ∷ xor 68 64 67 ∷ and 69 4 60 ∷ and 70 5 63 ∷ and 71 6 56 ∷ and 72 7 61 ∷ and 73 21 64 ∷
    and 74 22 65 ∷ and 75 23 66 ∷ and 76 24 67 ∷ and 77 25 68 ∷ xor 78 69 73 ∷ xor 79 70 73 ∷ xor 80 71 72 ∷
    xor 81 71 76 ∷ xor 82 74 77 ∷ xor 83 75 77 ∷ xor 8 78 80 ∷ xor 9 79 81 ∷ xor 10 78 82 ∷ xor 11 79 83 ∷
    and 84 0 60 ∷ and 85 1 63 ∷ and 86 2 56 ∷ and 87 3 61 ∷ and 88 16 64 ∷ and 89 17 65 ∷ and 90 18 66 ∷
    and 91 19 67 ∷ and 92 20 68 ∷ xor 93 84 88 ∷ xor 94 85 88 ∷ xor 95 86 87 ∷ xor 96 86 91 ∷ xor 97 89 92 ∷
    xor 98 90 92 ∷ xor 12 93 95 ∷ xor 13 94 96 ∷ xor 14 93 97 ∷ xor 15 94 98 ∷ [])

-- the affine rule and MixColumns, in coordinates: the first four bytes are a column, which goes into the last four
unfoldable pub mix_page : List ℕ
mix_page = page 8 108 (
    xor 64 23 26 ∷ xor 65 19 20 ∷ xor 66 13 21 ∷ xor 67 14 22 ∷ xor 68 14 13 ∷ xor 69 15 26 ∷ xor 70 9 17 ∷
    xor 71 11 19 ∷ xor 72 11 12 ∷ xor 73 4 12 ∷ xor 74 6 30 ∷ xor 75 7 10 ∷ xor 76 1 25 ∷ xor 77 2 31 ∷ xor 78 3 29 ∷
    xor 79 3 4 ∷ xor 80 64 18 ∷ xor 81 64 7 ∷ xor 82 65 16 ∷ xor 83 67 6 ∷ xor 84 67 66 ∷ xor 85 68 30 ∷
    xor 86 70 1 ∷ xor 87 70 69 ∷ xor 88 72 8 ∷ xor 89 74 14 ∷ xor 90 74 70 ∷ xor 91 75 18 ∷ xor 92 76 9 ∷
    xor 93 77 75 ∷ xor 94 78 71 ∷ xor 95 79 0 ∷ xor 96 79 74 ∷ xor 97 80 15 ∷ xor 98 82 5 ∷ xor 99 83 73 ∷
    xor 100 85 27 ∷ xor 101 89 65 ∷ xor 102 90 25 ∷ xor 34 91 69 ∷ xor 58 91 77 ∷ xor 103 92 20 ∷ xor 104 92 13 ∷
    xor 105 93 27 ∷ xor 50 93 81 ∷ xor 106 93 84 ∷ xor 107 95 66 ∷ xor 108 96 72 ∷ xor 109 97 29 ∷ xor 42 97 2 ∷
    xor 110 98 86 ∷ xor 111 98 88 ∷ xor 112 99 86 ∷ xor 113 102 31 ∷ xor 114 102 10 ∷ xor 115 102 99 ∷
    xor 116 103 28 ∷ xor 117 103 87 ∷ xor 118 105 28 ∷ xor 119 105 3 ∷ xor 120 106 64 ∷ xor 121 106 85 ∷
    xor 122 108 34 ∷ xor 123 109 31 ∷ xor 124 109 91 ∷ xor 125 42 5 ∷ xor 126 42 72 ∷ xor 127 111 104 ∷
    xor 52 112 28 ∷ xor 128 114 80 ∷ xor 60 115 20 ∷ xor 129 116 12 ∷ xor 130 116 89 ∷ xor 131 117 12 ∷
    xor 132 117 101 ∷ xor 133 118 24 ∷ xor 134 118 83 ∷ xor 135 119 74 ∷ xor 136 120 42 ∷ xor 137 121 109 ∷
    xor 38 122 22 ∷ xor 138 123 26 ∷ xor 139 123 76 ∷ xor 140 125 113 ∷ xor 46 126 101 ∷ xor 141 127 90 ∷
    xor 142 127 120 ∷ xor 143 128 105 ∷ xor 144 129 90 ∷ xor 44 130 4 ∷ xor 41 131 106 ∷ xnor 43 132 119 ∷
    xor 145 133 107 ∷ xor 146 134 65 ∷ xor 147 134 96 ∷ xor 148 135 5 ∷ xor 47 136 71 ∷ xor 149 137 7 ∷
    xor 150 137 67 ∷ xor 151 138 116 ∷ xor 152 138 127 ∷ xor 153 139 83 ∷ xor 154 139 95 ∷ xor 155 141 133 ∷
    xnor 45 142 29 ∷ xor 156 143 71 ∷ xor 36 144 22 ∷ xor 157 145 82 ∷ xor 158 145 110 ∷ xnor 61 145 140 ∷
    xor 54 146 81 ∷ xor 159 146 94 ∷ xor 62 147 18 ∷ xor 160 148 100 ∷ xor 63 148 124 ∷ xor 161 149 105 ∷
    xor 162 150 75 ∷ xor 163 150 120 ∷ xor 49 151 121 ∷ xor 164 153 114 ∷ xor 165 154 111 ∷ xnor 32 155 128 ∷
    xnor 35 156 22 ∷ xnor 40 157 87 ∷ xnor 48 158 152 ∷ xnor 51 159 151 ∷ xor 166 160 11 ∷ xor 55 161 19 ∷
    xor 167 162 141 ∷ xor 168 163 133 ∷ xnor 59 164 94 ∷ xor 169 164 148 ∷ xnor 56 165 10 ∷ xor 39 166 23 ∷
    xor 170 166 108 ∷ xor 171 167 95 ∷ xnor 53 168 110 ∷ xor 57 169 147 ∷ xor 33 170 128 ∷ xnor 37 171 98 ∷ [])

-- the affine rule on the first byte, in coordinates, into the second, in plain bits
unfoldable pub finish_page : List ℕ
finish_page = page 2 5 (
    and 12 4 4 ∷ xor 16 2 5 ∷ xor 17 3 6 ∷ xnor 8 3 2 ∷ xor 18 17 5 ∷ xnor 13 17 0 ∷ xor 15 18 7 ∷ xor 11 18 1 ∷
    xor 19 11 0 ∷ xor 20 19 4 ∷ xor 10 19 7 ∷ xor 14 20 8 ∷ xnor 9 10 16 ∷ [])

-- the first byte is copied to the second
unfoldable pub copy_page : List ℕ
copy_page = page 2 0 (map (λ i. and (8 + i) i i) (range_with_len 0 8))

-- the affine rule on a byte in coordinates
unfoldable pub affine_page : List ℕ
affine_page = page 1 12 (
    and 8 2 2 ∷ and 9 7 7 ∷ xor 10 0 4 ∷ xor 11 1 6 ∷ xor 12 2 6 ∷ xor 13 2 7 ∷ xor 14 11 4 ∷ xor 15 13 1 ∷
    xor 16 13 3 ∷ xnor 17 15 5 ∷ xnor 18 16 10 ∷ xnor 19 16 11 ∷ and 0 18 18 ∷ and 1 15 15 ∷ and 2 8 8 ∷
    and 3 19 19 ∷ and 4 14 14 ∷ and 5 17 17 ∷ and 6 12 12 ∷ and 7 9 9 ∷ [])

-- the sum of the first two bytes into the third
unfoldable pub sum_page : List ℕ
sum_page = page 3 0 (map (λ i. xor (16 + i) i (8 + i)) (range_with_len 0 8))

-- a byte in coordinates goes back to plain bits
unfoldable pub leave_page : List ℕ
leave_page = page 1 8 (
    xor 8 1 3 ∷ xor 8 8 6 ∷ xor 9 0 4 ∷ xor 10 0 1 ∷ xor 10 10 2 ∷ xor 10 10 4 ∷ xor 10 10 5 ∷ xor 11 1 2 ∷
    xor 11 11 3 ∷ xor 11 11 5 ∷ xor 11 11 7 ∷ xor 12 1 4 ∷ xor 12 12 6 ∷ xor 12 12 7 ∷ xor 13 0 1 ∷ xor 13 13 4 ∷
    xor 14 0 1 ∷ xor 14 14 2 ∷ xor 14 14 3 ∷ xor 14 14 5 ∷ xor 15 3 5 ∷ xor 15 15 7 ∷ and 0 8 8 ∷ and 1 9 9 ∷
    and 2 10 10 ∷ and 3 11 11 ∷ and 4 12 12 ∷ and 5 13 13 ∷ and 6 14 14 ∷ and 7 15 15 ∷ [])

-- the inverse of the affine rule on a byte in coordinates
unfoldable pub unaffine_page : List ℕ
unaffine_page = page 1 8 (
    xor 8 0 3 ∷ xor 8 8 4 ∷ xor 9 1 2 ∷ xor 9 9 7 ∷ and 10 2 2 ∷ xor 11 1 2 ∷ xor 11 11 3 ∷ xnor 11 11 6 ∷
    xor 12 1 4 ∷ xor 12 12 6 ∷ xor 12 12 7 ∷ xnor 13 1 5 ∷ xor 14 2 6 ∷ and 15 7 7 ∷ and 0 8 8 ∷ and 1 9 9 ∷
    and 2 10 10 ∷ and 3 11 11 ∷ and 4 12 12 ∷ and 5 13 13 ∷ and 6 14 14 ∷ and 7 15 15 ∷ [])

-- InvMixColumns, in coordinates: the first four bytes are a column, which goes into the last four
unfoldable pub unmix_page : List ℕ
unmix_page = page 8 163 (
    xor 64 0 16 ∷ xor 65 3 5 ∷ xor 66 8 24 ∷ xor 67 11 13 ∷ xor 68 19 21 ∷ xor 69 27 29 ∷ xor 70 1 17 ∷ xor 71 9 25 ∷
    xor 72 4 12 ∷ xor 73 7 20 ∷ xor 74 15 28 ∷ xor 75 23 31 ∷ xor 76 2 18 ∷ xor 77 10 26 ∷ xor 78 64 66 ∷
    xor 79 72 73 ∷ xor 80 65 68 ∷ xor 81 67 69 ∷ xor 82 74 79 ∷ xor 83 5 6 ∷ xor 84 13 14 ∷ xor 85 21 22 ∷
    xor 86 29 30 ∷ xor 87 3 68 ∷ xor 88 11 69 ∷ xor 89 19 65 ∷ xor 90 23 77 ∷ xor 91 27 67 ∷ xor 92 31 77 ∷
    xor 93 64 71 ∷ xor 94 66 70 ∷ xor 95 70 71 ∷ xor 96 75 80 ∷ xor 97 78 81 ∷ xor 98 4 76 ∷ xor 99 20 65 ∷
    xor 100 28 67 ∷ xor 101 0 1 ∷ xor 102 1 13 ∷ xor 103 2 23 ∷ xor 104 4 83 ∷ xor 105 5 25 ∷ xor 106 6 12 ∷
    xor 107 6 22 ∷ xor 108 7 28 ∷ xor 109 7 95 ∷ xor 110 8 9 ∷ xor 111 9 21 ∷ xor 112 10 75 ∷ xor 113 12 76 ∷
    xor 114 14 30 ∷ xor 115 14 85 ∷ xor 116 15 78 ∷ xor 117 16 17 ∷ xor 118 17 29 ∷ xor 119 18 31 ∷ xor 120 22 86 ∷
    xor 121 24 25 ∷ xor 122 26 69 ∷ xor 123 30 83 ∷ xor 124 64 70 ∷ xor 125 66 71 ∷ xor 126 68 100 ∷ xor 127 69 84 ∷
    xor 128 74 76 ∷ xor 129 75 81 ∷ xor 130 78 96 ∷ xor 131 80 116 ∷ xor 132 82 96 ∷ xor 133 82 122 ∷
    xor 134 82 129 ∷ xor 135 84 118 ∷ xor 136 85 105 ∷ xor 137 86 102 ∷ xor 138 87 88 ∷ xor 139 87 91 ∷
    xor 140 88 89 ∷ xor 141 89 91 ∷ xor 142 90 94 ∷ xor 143 92 93 ∷ xor 144 93 107 ∷ xor 145 94 114 ∷ xor 146 0 141 ∷
    xor 147 1 20 ∷ xor 148 2 67 ∷ xor 149 3 12 ∷ xor 150 6 14 ∷ xor 151 6 84 ∷ xor 152 7 128 ∷ xor 153 8 139 ∷
    xor 154 9 98 ∷ xor 155 10 95 ∷ xor 156 11 20 ∷ xor 157 14 22 ∷ xor 158 15 17 ∷ xor 159 15 90 ∷ xor 160 15 95 ∷
    xor 161 16 138 ∷ xor 162 18 79 ∷ xor 163 19 30 ∷ xor 164 22 30 ∷ xor 165 24 140 ∷ xor 166 25 73 ∷
    xor 167 26 109 ∷ xor 168 27 73 ∷ xor 169 65 103 ∷ xor 170 68 70 ∷ xor 171 68 119 ∷ xor 172 70 86 ∷
    xor 173 71 85 ∷ xor 174 71 104 ∷ xor 175 72 74 ∷ xor 176 72 76 ∷ xor 177 72 123 ∷ xor 178 73 92 ∷ xor 179 74 90 ∷
    xor 180 75 83 ∷ xor 181 92 97 ∷ xor 182 97 103 ∷ xor 183 97 109 ∷ xor 184 97 149 ∷ xor 185 98 130 ∷
    xor 186 98 131 ∷ xor 187 99 100 ∷ xor 188 99 106 ∷ xor 189 99 112 ∷ xor 190 101 110 ∷ xor 191 101 121 ∷
    xor 192 104 111 ∷ xor 193 106 108 ∷ xor 194 108 140 ∷ xor 195 110 117 ∷ xor 196 111 113 ∷ xor 197 112 125 ∷
    xor 198 113 139 ∷ xor 199 115 134 ∷ xor 200 115 172 ∷ xor 201 117 121 ∷ xor 34 119 183 ∷ xor 202 120 126 ∷
    xor 203 120 132 ∷ xor 204 123 134 ∷ xor 205 124 133 ∷ xor 206 124 148 ∷ xor 207 125 133 ∷ xor 208 126 162 ∷
    xor 209 127 170 ∷ xor 210 127 173 ∷ xor 211 128 138 ∷ xor 58 130 155 ∷ xor 42 131 167 ∷ xor 212 132 151 ∷
    xor 213 135 136 ∷ xor 214 135 180 ∷ xor 215 136 137 ∷ xor 216 137 159 ∷ xor 217 141 143 ∷ xor 218 142 154 ∷
    xor 219 142 166 ∷ xor 220 143 147 ∷ xor 40 144 153 ∷ xor 56 144 165 ∷ xor 32 145 146 ∷ xor 48 145 161 ∷
    xor 221 150 168 ∷ xor 60 152 215 ∷ xor 222 156 164 ∷ xor 223 157 179 ∷ xor 224 158 176 ∷ xor 50 160 182 ∷
    xor 225 163 181 ∷ xor 39 169 207 ∷ xor 63 171 205 ∷ xor 54 174 202 ∷ xor 226 175 189 ∷ xor 62 177 209 ∷
    xor 52 178 213 ∷ xor 51 184 223 ∷ xor 59 185 222 ∷ xor 43 186 221 ∷ xor 46 187 200 ∷ xor 38 188 210 ∷
    xor 37 190 199 ∷ xor 61 191 212 ∷ xor 36 192 216 ∷ xor 35 193 225 ∷ xor 57 194 218 ∷ xor 45 195 203 ∷
    xor 44 196 214 ∷ xor 55 197 208 ∷ xor 41 198 219 ∷ xor 53 201 204 ∷ xor 47 206 226 ∷ xor 49 211 220 ∷
    xor 33 217 224 ∷ [])

-- round constant n is added to a byte in coordinates: AND copies a bit, NAND turns it
unfoldable pub rcon_page : ℕ → List ℕ
unfolding bit to_coordinates Rcon
rcon_page n = page 1 0 (map (λ i. cond (bit (to_coordinates (Rcon n)) i) (nand i i i) (and i i i)) (range_with_len 0 8))

-- A whole run, and two. Assumes nothing.
use Rattle.std.proofs.Common.{◌≡◌, List, sym, refl, ap, ◌∙◌, subst}
use Rattle.bench.specs.Model.{Model, Memory}
use Rattle.unit.specs.View.{View, made}
use Rattle.law.specs.Calls.{Asked, Line, log, ran}
use Rattle.law.specs.Book.{blank}
use Rattle.law.specs.Law.{Charged, Agree, Each, Lawful, Isolated}
use Rattle.law.proofs.Holds.{AllSound, made_holds}
use Rattle.law.proofs.Laws.{readings, charged, agree_all}

pub lawful_of : (m : Model) (x : Memory) (u : View) (xs : List Asked) (ls : List Line) → AllSound xs → ls ≡ log (made m x) xs → u ≡ ran (made m x) xs → Lawful m.left ls u.model.left
lawful_of m x u xs ls sound e s =
    let P : List Line → Type 0 = λ l. Lawful m.left l u.model.left in
    let Q : View → Type 0 = λ t. Charged m.left (log (made m x) xs) t.model.left in
    subst P (sym e) (record { readings = readings m x xs sound; gates = subst Q (sym s) (charged xs (made m x)) })

pub isolated_of : (m n : Model) (x y : Memory) (u t : View) (xs ys : List Asked) (ls ms : List Line) → AllSound xs → AllSound ys → ls ≡ log (made m x) xs → ms ≡ log (made n y) ys
    → u ≡ ran (made m x) xs → t ≡ ran (made n y) ys → Isolated m n xs ys ls ms u.model.left t.model.left
isolated_of m n x y u t xs ys ls ms sx sy el em su st r l g chosen h =
    let both = agree_all chosen xs ys sx sy (made m x) (made n y) blank blank (made_holds m x) (made_holds n y) (λ i. record { registers = r i; lanes = l i; left = g i; records = (made m x).records }) refl h in
    let P : List Line → Type 0 = λ a. Each (Agree chosen) a ms in
    let Q : List Line → Type 0 = λ b. Each (Agree chosen) (log (made m x) xs) b in
    (subst P (sym el) (subst Q (sym em) both.0), ap (λ (v : View). v.model.left) su ∙ both.1 ∙ sym (ap (λ (v : View). v.model.left) st))

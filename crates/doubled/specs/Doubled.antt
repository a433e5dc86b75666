-- The doubled netlist: the groups of all nets, one after the other.
use Rattle.std.specs.Prelude.{ℕ, suc, ◌+◌, ◌-◌, List, [], ◌∷◌, ◌++◌, take}
use Rattle.image.specs.declared.image.Net.{Net}
use Rattle.image.specs.Pins.{pin_net, like_pin}
use Rattle.groups.specs.Groups.{group_length, group_of}

-- how many nets the groups of some nets have
unfoldable pub doubled_size : List Net → ℕ
doubled_size [] = 0
doubled_size (x ∷ xs) = group_length x.kind + doubled_size xs

-- the value net and the mark net of net i: the first and the last of its group
unfoldable pub value_net : List Net → (i : ℕ) → ℕ
value_net xs i = doubled_size (take i xs)

unfoldable pub mark_net : List Net → (i : ℕ) → ℕ
mark_net xs i = doubled_size (take (suc i) xs) - 1

-- what a pin p becomes: a pin that names the value net of its net, with the top bit as p has it, and one without it that names the mark net (document 02, L3)
unfoldable pub value_pin : List Net → (p : ℕ) → ℕ
value_pin xs p = like_pin p (value_net xs (pin_net p))

unfoldable pub mark_pin : List Net → (p : ℕ) → ℕ
mark_pin xs p = mark_net xs (pin_net p)

-- the group of y, which is net i of xs
abbrev pub group_at : List Net → (i : ℕ) → Net → List Net
group_at xs i y = group_of (value_net xs i) y (value_pin xs) (mark_pin xs)

-- the groups of the nets ys, the first of which is net i of xs
unfoldable pub groups_from : List Net → (i : ℕ) → List Net → List Net
groups_from xs i [] = []
groups_from xs i (y ∷ ys) = group_at xs i y ++ groups_from xs (suc i) ys

-- the doubled netlist of the nets xs
unfoldable pub doubled_nets : List Net → List Net
doubled_nets xs = groups_from xs 0 xs

-- The view of an image ("a view on the caller's bytes, never a copy"). `View` is the struct of src/view.rt: the image, and beside it N, I, R and O.
use Rattle.image.specs.declared.image.Sizes.{Sizes}
use Rattle.image.specs.declared.view.View.{View}

-- N, I, R and O, as a view holds them
abbrev pub counts_of : View → Sizes
counts_of v = record { nets = v.nets; inputs = v.inputs; registers = v.registers; outputs = v.outputs }

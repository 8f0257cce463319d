use Rattle.std.proofs.Common.{◌+◌, ◌*◌}
use Rattle.base_poly.specs.Plain.{Then, many}
use Rattle.base_poly.specs.Read.{index_of, plains_of}
use Rattle.base_poly.proofs.Height.{parts}
use Rattle.base_poly.proofs.products.+product.Given as goal

abbrev pub decreases-product : goal.decreases-product
decreases-product l = 4 * (parts (index_of l.left.now) + parts (index_of l.right.now)) + 3

abbrev pub decreases-lists_product : goal.decreases-lists_product
decreases-lists_product l = 4 * (parts (many (plains_of l.left.now)) + parts (many (plains_of l.right.now))) + 2

abbrev pub decreases-led_product : goal.decreases-led_product
decreases-led_product l = 4 * (parts (Then (index_of l.first.now) (many (plains_of l.rest.now))) + parts (many (plains_of l.right.now))) + 1

abbrev pub decreases-mixed_product : goal.decreases-mixed_product
decreases-mixed_product l = 4 * (parts (Then (index_of l.first.now) (many (plains_of l.rest.now))) + parts (Then (index_of l.other.now) (many (plains_of l.others.now))))

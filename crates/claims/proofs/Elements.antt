-- The elements of a payload.
use Rattle.element.proofs.Laws as laws
use Rattle.element.proofs.Order as order
use Rattle.lawful.proofs.Reading as reading
use Rattle.claims.specs.Elements.{PartLies, FromStep, FromEnd, ElementsInOrder, CountW, CountEnd, CarriedRead}

pub part_lies : PartLies
part_lies = laws.part_lies

pub from_step : FromStep
from_step = laws.from_step

pub from_end : FromEnd
from_end = laws.from_end

pub in_order_lem : ElementsInOrder
in_order_lem = order.in_order_lem

pub count_w : CountW
count_w = order.count_w

pub count_end : CountEnd
count_end = order.count_end

pub carried_read : CarriedRead
carried_read = reading.carried_read

mod LastItem
